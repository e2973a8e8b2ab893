pub mod Owners
pub mod ByPlace
pub mod Gathered
pub mod Unique

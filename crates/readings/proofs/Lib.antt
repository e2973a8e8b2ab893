pub mod Gathered
pub mod Unique

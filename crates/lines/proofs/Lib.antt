pub mod Behind
pub mod Unique

pub mod Begins
pub mod Broken
pub mod Unique

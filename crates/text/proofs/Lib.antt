pub mod Digits
pub mod Found
pub mod Runs
pub mod Spelling
pub mod Unique

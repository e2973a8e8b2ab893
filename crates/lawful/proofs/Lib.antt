-- In folders, in reading order: each has a file of its name that says what it holds.
pub mod Blocks
pub mod Ready
pub mod Chained
pub mod Each
pub mod Tested
pub mod Told

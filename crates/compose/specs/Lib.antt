pub mod Calls
pub mod Image
pub mod Words

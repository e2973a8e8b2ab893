pub mod Orderly
pub mod Links

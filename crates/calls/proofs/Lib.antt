pub mod Entries
pub mod Cases
pub mod Unique
pub mod Written

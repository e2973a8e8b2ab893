pub mod Coded
pub mod Whole
pub mod Unique
pub mod Known

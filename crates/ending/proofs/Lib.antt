pub mod Shown
pub mod Finishes
pub mod Aborts
pub mod Unique

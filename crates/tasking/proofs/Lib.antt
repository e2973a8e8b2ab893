pub mod Starts
pub mod Ticks
pub mod Yields
pub mod Unique

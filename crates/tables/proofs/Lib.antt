pub mod Held
pub mod Unique
pub mod Lengths
pub mod Readings

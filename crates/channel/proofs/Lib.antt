pub mod Started
pub mod Shaped
pub mod Asked
pub mod Transferred
pub mod Unique

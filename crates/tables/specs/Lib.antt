pub mod Blocks
pub mod State
pub mod Held

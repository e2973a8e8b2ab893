pub mod Loaded
pub mod Rules
pub mod Parts
pub mod Once
pub mod Deeds
pub mod Pointers
pub mod Blanks

pub mod Each
pub mod Some
pub mod Blank
pub mod Behind
pub mod Asked
pub mod Unique

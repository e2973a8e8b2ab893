pub mod Agree
pub mod Worked

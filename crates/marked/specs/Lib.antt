pub mod Played
pub mod Session
pub mod Marked
pub mod Days
pub mod Worked

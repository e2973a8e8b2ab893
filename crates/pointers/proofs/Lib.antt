pub mod Passes
pub mod Found
pub mod Goes
pub mod Decided
pub mod Marks
pub mod Unique

-- Each call keeps the rules: a law for each, and `Keeps` for all.
pub mod Calls
pub mod Signal
pub mod Given
pub mod Link
pub mod Clearing
pub mod Finish
pub mod Chains
pub mod Abort
pub mod Timer
pub mod Channel
pub mod IoDone
pub mod Keeps

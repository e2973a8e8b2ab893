pub mod Dispatched
pub mod Granted
pub mod Served
pub mod GivenBack
pub mod Shaped
pub mod Unique

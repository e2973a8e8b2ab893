pub mod Events
pub mod Words

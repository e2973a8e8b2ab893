pub mod Queue
pub mod Transfer

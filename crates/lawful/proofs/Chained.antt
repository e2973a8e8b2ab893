-- Every call is a chain of small changes, and what follows from that for all of them.
pub mod Small
pub mod Views
pub mod Framed
pub mod Chain
pub mod Stays
pub mod Dated

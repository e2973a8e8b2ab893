-- Getting ready, waiting, serving a core queue, the rules of rest, and the dispatch.
pub mod Cases
pub mod Made
pub mod Resting
pub mod Waits
pub mod Served
pub mod Dispatch
pub mod Newly

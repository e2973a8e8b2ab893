-- The rules as tests and as records, both ways; a call that no row refuses is accepted.
pub mod Directory
pub mod Pendings
pub mod TaskRules
pub mod PlaceRules
pub mod RequestRules
pub mod CoreRules
pub mod RestRules
pub mod FromRules
pub mod ToRules
pub mod Accepted

-- What `demands` cites: how a step ends, what is reached, whom an abort takes, that nobody overtakes, that core stays under a read, what is known of an event, since when a task waits, from which start core is
-- granted.
pub mod Loaded
pub mod Ends
pub mod Results
pub mod Steps
pub mod Never
pub mod Plain
pub mod Agree
pub mod After
pub mod Best
pub mod Corollaries
pub mod Taken
pub mod Others
pub mod Gone
pub mod Turns
pub mod GetsInTurn
pub mod Overtakes
pub mod Granted
pub mod Started
pub mod Pages
pub mod UnderRead
pub mod Throughout
pub mod Signalling
pub mod Signalled
pub mod Clock
pub mod Waiting
pub mod Waited

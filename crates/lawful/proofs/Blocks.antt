-- One changed block: one law for every change of a task block, its cases, and that of a request block.
pub mod Sums
pub mod Shape
pub mod Members
pub mod Change
pub mod Fields
pub mod Put
pub mod Take
pub mod Cored
pub mod Enter
pub mod Leave
pub mod Create
pub mod Freed
pub mod Unlink
pub mod Ask
pub mod Still

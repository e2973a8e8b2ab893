pub mod Threads
pub mod Joints

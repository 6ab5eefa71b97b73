pub mod Paths
pub mod Sound
pub mod Reached

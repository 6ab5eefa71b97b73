pub mod Run
pub mod Breaks
pub mod Calls
pub mod Post

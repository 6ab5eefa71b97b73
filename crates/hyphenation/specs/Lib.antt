pub mod Levels
pub mod Breaks
pub mod Deciding
pub mod Calls
pub mod Post

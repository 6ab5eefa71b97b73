pub mod Chain
pub mod Walk
pub mod Raise
pub mod Post

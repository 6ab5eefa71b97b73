pub mod Output
pub mod Post

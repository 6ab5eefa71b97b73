pub mod Pack
pub mod Post

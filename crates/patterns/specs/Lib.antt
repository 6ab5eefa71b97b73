pub mod Common
pub mod Next
pub mod Strings
pub mod Post

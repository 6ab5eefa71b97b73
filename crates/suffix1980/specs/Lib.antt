pub mod Suffixes
pub mod Joined

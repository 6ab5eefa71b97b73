pub mod Prefixes
pub mod Joined

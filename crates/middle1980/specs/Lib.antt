pub mod Middles
pub mod Joined

pub mod Chains
pub mod Matches
pub mod Levels
pub mod Looks
pub mod Unreached

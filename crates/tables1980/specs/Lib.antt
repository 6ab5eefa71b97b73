pub mod Words
pub mod Suffix
pub mod Prefix
pub mod Pairs
pub mod Targets

pub mod Find
pub mod Lookup
pub mod Listed

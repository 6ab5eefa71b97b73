pub mod Bases
pub mod FirstFit
pub mod Entries
pub mod Table

pub mod Symbols
pub mod Words

pub mod Patterns
pub mod Levels
pub mod Breaks

pub mod Table
pub mod Heights
pub mod Targets
pub mod Readers

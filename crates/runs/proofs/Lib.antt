pub mod Laws
pub mod Views
pub mod Cut
pub mod Kept
pub mod Words
pub mod Reached
pub mod Short

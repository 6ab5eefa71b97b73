pub mod Apostrophes
pub mod Lines
pub mod Order
pub mod Ends

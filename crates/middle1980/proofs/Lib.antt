pub mod Ends
pub mod Aspirates
pub mod Going
pub mod Laws

pub mod Order
pub mod Laws
pub mod Calls
pub mod Theorems
pub mod Sizes

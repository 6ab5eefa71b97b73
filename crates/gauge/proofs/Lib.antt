pub mod Laws
pub mod Order
pub mod Sums
pub mod Theorems

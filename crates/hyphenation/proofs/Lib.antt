pub mod Laws
pub mod Rooms
pub mod Order
pub mod Calls
pub mod Theorems

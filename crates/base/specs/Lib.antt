pub mod Limits
pub mod Grounds
pub mod Orders
pub mod Tests

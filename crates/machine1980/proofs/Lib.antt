pub mod Written
pub mod Order
pub mod Laws
pub mod Budgets
pub mod Theorems

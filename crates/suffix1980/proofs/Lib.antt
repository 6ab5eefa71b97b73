pub mod Rows
pub mod Ends
pub mod Budget
pub mod Masks
pub mod Going

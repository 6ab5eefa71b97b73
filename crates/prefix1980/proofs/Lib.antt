pub mod Rows
pub mod Ends
pub mod Budget
pub mod Going

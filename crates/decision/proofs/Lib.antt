pub mod Loops
pub mod Nodes
pub mod Follow
pub mod Alike
pub mod Checked
pub mod Test
pub mod Theorems
pub mod Refusals

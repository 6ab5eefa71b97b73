pub mod Samples
pub mod Figures
pub mod Strips

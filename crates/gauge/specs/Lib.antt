pub mod Widths
pub mod Fit
pub mod Strip

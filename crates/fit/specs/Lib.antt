pub mod Cells
pub mod Entries
pub mod Table
pub mod Alphabet

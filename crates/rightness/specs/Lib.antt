pub mod Right
pub mod Test

pub mod Rows
pub mod After

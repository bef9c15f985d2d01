pub mod Chunks
pub mod Quick
pub mod Whole

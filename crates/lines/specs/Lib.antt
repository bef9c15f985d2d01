pub mod Answer
pub mod Chunks

pub mod Needed
pub mod Answer
pub mod Reader
pub mod Steps

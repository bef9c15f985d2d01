pub mod Saying
pub mod Parts

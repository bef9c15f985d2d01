pub mod Content
pub mod Parts

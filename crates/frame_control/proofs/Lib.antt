pub mod Known
pub mod Control

pub mod Types
pub mod Versions
pub mod Modes
pub mod Control

pub mod Layout
pub mod Reading
pub mod Cleared
pub mod Rewriting

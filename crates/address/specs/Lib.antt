pub mod Address
pub mod Layout

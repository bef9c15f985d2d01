pub mod Named
pub mod Bridge
pub mod Altering

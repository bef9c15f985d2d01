pub mod Fields
pub mod Parting
pub mod Telling

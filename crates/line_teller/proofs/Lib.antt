pub mod Room
pub mod Ends
pub mod Quickly
pub mod Written

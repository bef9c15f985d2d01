pub mod Orders
pub mod Superframe

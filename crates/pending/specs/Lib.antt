pub mod Addresses
pub mod Pending

pub mod Prefix
pub mod Looking
pub mod Growing

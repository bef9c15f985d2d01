pub mod OneNumber
pub mod Table
pub mod Bytes
pub mod Ends
pub mod Looking
pub mod Steps

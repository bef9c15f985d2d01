pub mod Record
pub mod Read
pub mod Write
pub mod Edit

pub mod Quick
pub mod Written

pub mod Line
pub mod Lines
pub mod Answers
pub mod Telling

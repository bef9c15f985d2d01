pub mod Line
pub mod Lines
pub mod Telling
pub mod Answers
pub mod Cutting

pub mod Masks
pub mod Answers
pub mod Lists
pub mod Told
pub mod Places
pub mod Bounds

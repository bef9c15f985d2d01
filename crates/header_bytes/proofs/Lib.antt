pub mod Sizes
pub mod Passed
pub mod Accepted
pub mod Rewrites
pub mod Cleared

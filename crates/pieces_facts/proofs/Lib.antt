pub mod Enough
pub mod Kept
pub mod Standing
pub mod Place
pub mod Whole

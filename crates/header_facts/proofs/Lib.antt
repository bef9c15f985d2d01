pub mod Fields
pub mod Again
pub mod Back
pub mod Fit
pub mod Trip
pub mod Records
pub mod Edits
pub mod Quick

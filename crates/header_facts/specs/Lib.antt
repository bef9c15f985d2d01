pub mod Rewritten
pub mod RoundTrip
pub mod Told
pub mod Edited

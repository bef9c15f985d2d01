pub mod Security
pub mod Optional
pub mod Answer
pub mod RoundTrip

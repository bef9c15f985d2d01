pub mod Cleared
pub mod Format
pub mod Formats
pub mod RoundTrip
pub mod Demand
pub mod Senses

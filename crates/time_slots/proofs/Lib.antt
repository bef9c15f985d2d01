pub mod Descriptor
pub mod TimeSlots

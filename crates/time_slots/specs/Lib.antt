pub mod Direction
pub mod Descriptor
pub mod Width
pub mod TimeSlots

pub mod Sender
pub mod Counts
pub mod Hearing
pub mod Table

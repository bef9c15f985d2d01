pub mod Answer
pub mod Decimal
pub mod Form
pub mod Hexed
pub mod Putting

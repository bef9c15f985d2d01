pub mod Answer
pub mod Decimal
pub mod Hexed
pub mod Parted
pub mod Put

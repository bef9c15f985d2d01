pub mod Identifier
pub mod PanId
pub mod ShortAddress
pub mod ExtendedAddress

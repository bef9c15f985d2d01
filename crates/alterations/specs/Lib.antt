pub mod Bytes
pub mod Listed
pub mod Rewriting
pub mod Altered

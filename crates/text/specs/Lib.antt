pub mod Bytes
pub mod Parts
pub mod Lines
pub mod Short

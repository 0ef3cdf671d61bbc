pub mod Headers
pub mod Messages
pub mod Kept

pub mod Overlay
pub mod Decimals
pub mod Writers

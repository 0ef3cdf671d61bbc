pub mod Overlays
pub mod Each
pub mod Figures
pub mod Writes

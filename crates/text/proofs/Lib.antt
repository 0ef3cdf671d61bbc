pub mod Cuts
pub mod Scans

pub mod Cuts
pub mod Counts

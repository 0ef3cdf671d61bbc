pub mod Faults
pub mod Listed

pub mod Scans
pub mod Joining
pub mod Departing

pub mod Columns
pub mod FlightLines
pub mod Lists
pub mod Kept

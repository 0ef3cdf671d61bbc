pub mod Counts
pub mod Flights
pub mod Words
pub mod Standing
pub mod Held
pub mod Kept

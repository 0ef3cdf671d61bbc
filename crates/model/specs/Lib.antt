pub mod Model
pub mod Refusals
pub mod Words

pub mod Digits
pub mod Days
pub mod Dates
pub mod Identities
pub mod Same

pub mod Firsts
pub mod Offers
pub mod Spelt

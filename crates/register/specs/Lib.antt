pub mod Users
pub mod Keys
pub mod Same
pub mod Tables
pub mod Known
pub mod Registers

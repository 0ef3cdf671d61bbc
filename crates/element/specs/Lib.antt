pub mod Slots
pub mod Meanings
pub mod Forms
pub mod Pointed
pub mod Kept
pub mod ElementLaws
pub mod Kinds
pub mod Same

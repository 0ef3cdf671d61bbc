pub mod Shown
pub mod TextsHold

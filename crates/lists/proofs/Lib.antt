pub mod Filling
pub mod Standing
pub mod Given

pub mod Given
pub mod Messages
pub mod StageOne
pub mod StageTwo
pub mod Amended
pub mod Verdict
pub mod Laws

pub mod Numbers
pub mod Counting
pub mod RowSteps
pub mod Stages

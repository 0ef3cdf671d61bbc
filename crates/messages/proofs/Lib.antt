mod TagSteps
pub mod Identifiers

pub mod Names
pub mod Rows
pub mod Openings
pub mod Rejections
pub mod Worked

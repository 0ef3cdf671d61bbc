pub mod Told
pub mod Understood
pub mod Bodies
pub mod Blocks
pub mod Steps

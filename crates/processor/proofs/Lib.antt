pub mod Lasting
pub mod EdgesHold
pub mod Saying
pub mod Refusing
pub mod Promises
pub mod Shortness

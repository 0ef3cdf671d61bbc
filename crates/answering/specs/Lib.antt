pub mod Replies
pub mod Listing

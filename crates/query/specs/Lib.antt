pub mod Replies
pub mod Parts

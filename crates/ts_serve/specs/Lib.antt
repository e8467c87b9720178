pub mod Requests
pub mod Replies
pub mod Turn
pub mod Text
pub mod Stream
pub mod Answering
pub mod inside

pub mod Answers
pub mod Recorded
pub mod Replaying

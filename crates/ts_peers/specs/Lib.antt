pub mod Events
pub mod Frames
pub mod Hearing
pub mod Waiting

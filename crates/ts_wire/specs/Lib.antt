pub mod Outcomes
pub mod Frames
pub mod Stream
pub mod Taking
pub mod inside

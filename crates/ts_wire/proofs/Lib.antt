pub mod FrameLaws
pub mod Lengths
pub mod Joins
pub mod Bodies
pub mod Streams
pub mod Draining

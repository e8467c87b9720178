pub mod FrameReading
pub mod Taking

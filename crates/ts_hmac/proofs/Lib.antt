pub mod Pads
pub mod Lengths

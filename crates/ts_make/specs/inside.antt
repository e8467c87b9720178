pub mod TimeView
pub mod Writing

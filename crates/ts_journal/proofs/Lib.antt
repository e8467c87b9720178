pub mod Blocks
pub mod Choices
mod Extend
pub mod Filling
mod Gates
mod Journals
pub mod Moments
pub mod Others
mod Pairs
pub mod Rests
mod Rewrites

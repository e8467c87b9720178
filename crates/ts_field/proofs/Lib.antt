pub mod Algorithms
pub mod Times
pub mod Judging
pub mod OneEncoding

pub mod Dead
pub mod Levels
pub mod Trial

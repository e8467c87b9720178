pub mod OneVerdict
pub mod Steps
pub mod Counting
pub mod Advance
pub mod Positions
pub mod PathLengths
pub mod Inheriting

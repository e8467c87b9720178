pub mod Endings
pub mod Answers
pub mod Lines
pub mod Walk
pub mod Steps
pub mod Held

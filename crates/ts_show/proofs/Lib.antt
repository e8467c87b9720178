pub mod Plain
pub mod Answered
pub mod OneKind

pub mod Lines
pub mod Names
pub mod Moments
pub mod Scopes

pub mod Refusals
pub mod Once

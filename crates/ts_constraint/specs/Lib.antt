pub mod Names
pub mod Source
pub mod Conditions
pub mod View
pub mod inside

pub mod Places
pub mod Leaves
pub mod Preferred
pub mod Named
pub mod Judgements
pub mod Dots
pub mod Wildcards

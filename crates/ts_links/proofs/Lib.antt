pub mod Sizes
pub mod Slots
pub mod Fairness
pub mod Splitting
pub mod Reached

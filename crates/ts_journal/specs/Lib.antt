pub mod Choice
pub mod Gate
pub mod Images
pub mod Settled

pub mod Hash
pub mod Message

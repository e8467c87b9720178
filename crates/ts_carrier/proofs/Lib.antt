pub mod Full
pub mod Room

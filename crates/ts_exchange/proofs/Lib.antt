pub mod Texts
pub mod Walks
mod Held

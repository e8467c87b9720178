pub mod Explained
pub mod Text
pub mod Fields
pub mod Given
pub mod Judgement
pub mod inside

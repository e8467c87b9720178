pub mod Kind
pub mod Begins
pub mod Words

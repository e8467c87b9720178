pub mod Splits
pub mod Trimmed
pub mod Steps
pub mod Symbols
pub mod Blocks

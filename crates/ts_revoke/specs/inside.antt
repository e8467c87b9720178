pub mod ByList
pub mod Looked

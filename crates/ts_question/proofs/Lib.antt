mod Lengths
pub mod Fields
pub mod Replies
mod RowLaws

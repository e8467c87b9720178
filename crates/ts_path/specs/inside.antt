pub mod Context
pub mod Judging

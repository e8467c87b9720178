pub mod Ids
pub mod Plans

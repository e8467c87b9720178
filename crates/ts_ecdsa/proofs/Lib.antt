pub mod Values
pub mod Exact

pub mod Served
pub mod inside

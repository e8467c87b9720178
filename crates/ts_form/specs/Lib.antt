pub mod Pairs
pub mod Names
pub mod Said
pub mod Values
pub mod Fields
pub mod Rows
pub mod Asking
pub mod inside

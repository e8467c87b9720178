pub mod First
pub mod Parts

pub mod Says
pub mod Script
pub mod Lab
pub mod inside

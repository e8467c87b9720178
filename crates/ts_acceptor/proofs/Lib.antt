pub mod Rule
pub mod Stands

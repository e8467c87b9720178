pub mod Ring
pub mod Fields

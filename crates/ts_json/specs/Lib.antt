pub mod Object
pub mod Answer
pub mod Members

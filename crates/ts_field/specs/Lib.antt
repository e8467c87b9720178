pub mod Algorithm
pub mod Time
pub mod View
pub mod Table

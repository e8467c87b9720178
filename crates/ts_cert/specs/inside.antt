pub mod AllLocated
pub mod Layout
pub mod Period

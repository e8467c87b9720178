pub mod Octets
pub mod Placing
pub mod Sorting

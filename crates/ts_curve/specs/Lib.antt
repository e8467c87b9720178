pub mod Four
pub mod Six
pub mod Nine
pub mod Points
pub mod Jacobian
pub mod Curves
pub mod Octets

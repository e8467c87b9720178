pub mod Commands
pub mod Octets
pub mod Outcomes
pub mod Purposes
pub mod Reading

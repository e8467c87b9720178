pub mod Conditions
pub mod View
pub mod Printed
pub mod Octets

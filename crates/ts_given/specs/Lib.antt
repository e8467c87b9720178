pub mod Given
pub mod Printed
pub mod Vouching

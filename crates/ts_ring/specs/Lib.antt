pub mod Modular
pub mod Expression
pub mod Polynomial

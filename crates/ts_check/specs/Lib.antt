pub mod Options
pub mod PublicKey
pub mod Rsa
pub mod Elliptic
pub mod Edwards
pub mod Native
pub mod inside

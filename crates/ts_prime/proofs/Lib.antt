pub mod Pigeons
mod Powers
mod Orders
mod Pairs
pub mod Lucas
pub mod P256
pub mod N256
pub mod P384
pub mod N384
pub mod P521
pub mod N521
pub mod P25519
pub mod L25519

pub mod Prime
pub mod Primes
pub mod inside

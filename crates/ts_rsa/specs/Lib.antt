pub mod Octets
pub mod Key
pub mod Pkcs1
pub mod Pss
pub mod Tests

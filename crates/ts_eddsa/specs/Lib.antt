pub mod Field
pub mod Octets
pub mod Points
pub mod Decode
pub mod Encode
pub mod Signature
pub mod Tests
pub mod inside

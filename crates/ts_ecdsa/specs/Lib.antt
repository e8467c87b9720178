pub mod Number
pub mod Key
pub mod Value
pub mod Reading
pub mod Curve
pub mod Signature
pub mod Tests

pub mod Times
pub mod Request
pub mod Looking
pub mod Writing
pub mod Moves
pub mod Reading
pub mod Account
pub mod inside

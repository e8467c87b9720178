pub mod Times
pub mod Moves
pub mod Events
pub mod Table
pub mod Turns
pub mod Account
pub mod Calls

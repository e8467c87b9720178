mod Places
pub mod Slots
pub mod Held
mod Changing
pub mod Steps
pub mod Borrowed
pub mod Applied
pub mod Replays

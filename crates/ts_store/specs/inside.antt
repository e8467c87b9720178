pub mod History
pub mod Places
pub mod Taken

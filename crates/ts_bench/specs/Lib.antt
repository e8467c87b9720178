pub mod Told
pub mod Keys

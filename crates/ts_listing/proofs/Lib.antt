pub mod Logs
pub mod Pages
pub mod Names
pub mod Listings
pub mod Scopes
pub mod Others

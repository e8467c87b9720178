pub mod Asking
pub mod Counting
pub mod Facts
pub mod Giving
pub mod Places
pub mod Rule
pub mod Votes

pub mod Promises
pub mod Proposer
pub mod Steps

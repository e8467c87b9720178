pub mod Acceptor
pub mod Steps

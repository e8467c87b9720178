pub mod Carrying
pub mod Outbox
pub mod Steps

pub mod Contact
pub mod Dial
pub mod Event
pub mod Gate
pub mod Mailbox
pub mod Moment
pub mod Rotation

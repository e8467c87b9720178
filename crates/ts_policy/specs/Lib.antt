pub mod Labels
pub mod Paths
pub mod Accepted
pub mod Seen
pub mod Tree
pub mod Certificates
pub mod Stated
pub mod inside

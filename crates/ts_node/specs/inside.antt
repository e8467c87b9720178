pub mod Roles
pub mod Staged

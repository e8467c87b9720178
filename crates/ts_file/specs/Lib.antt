pub mod History
pub mod FileDisk
pub mod Laws

pub mod Parts
pub mod Asked
pub mod Reply
pub mod Machine
pub mod Held
pub mod Laws
pub mod inside

pub mod Contents
pub mod Keys
pub mod ByRsa
pub mod ByEcdsa
pub mod ByEd25519
pub mod Natives
pub mod OneHash

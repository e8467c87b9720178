pub mod OneEncoding
pub mod Encoded

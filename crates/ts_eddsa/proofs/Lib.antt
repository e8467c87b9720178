pub mod Remainders
pub mod Multiple
pub mod Exact
pub mod Roots
pub mod Encoded
pub mod Decoded

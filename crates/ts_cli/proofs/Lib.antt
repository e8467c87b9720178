mod Saying
mod Encodings
mod Subcommands
mod Addresses
pub mod Parsing

pub mod Opening
pub mod Prefixes
pub mod Runs

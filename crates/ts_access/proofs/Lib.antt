pub mod Cutting
pub mod Entries
pub mod Reading
pub mod Runs
pub mod Sieves
pub mod Written

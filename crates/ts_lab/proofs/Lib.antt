pub mod Checked
pub mod OneWord
pub mod Reading
pub mod Scanning

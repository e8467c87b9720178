pub mod Endings
pub mod Findings
pub mod Kept
pub mod MarkView
pub mod Marks

pub mod Folding
pub mod Gaps
pub mod Sorted

pub mod Saying
pub mod EntryParts
pub mod Updates
pub mod Walks
pub mod Joining
pub mod ListParts
pub mod Finds
pub mod Marked
mod Ends
mod Checking
pub mod ValueParts
pub mod Readiness
pub mod Keeping
pub mod PlacedLaws
pub mod Crls
pub mod Judging
pub mod OneEncoding
mod Borrowing
mod Magnitudes
pub mod StatedValues

pub mod Candidates
pub mod Search
pub mod View
pub mod inside

pub mod Changes
pub mod Listing
pub mod Log
pub mod Page
pub mod View

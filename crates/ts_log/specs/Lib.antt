pub mod Maps
pub mod Log
pub mod Steps

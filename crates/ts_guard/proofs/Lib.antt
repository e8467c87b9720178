pub mod Contexts
pub mod Fronts
pub mod OneRecord
pub mod OneReading
pub mod Runs
pub mod Texts

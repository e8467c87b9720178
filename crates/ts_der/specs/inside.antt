pub mod DottedReading
pub mod Written

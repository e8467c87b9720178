pub mod Calendar
pub mod Civil
pub mod Reading
pub mod Text

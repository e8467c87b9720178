pub mod Asking
pub mod Request
pub mod Response
pub mod Routes
pub mod Heading
pub mod Words

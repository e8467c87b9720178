pub mod Hmac
pub mod Holding

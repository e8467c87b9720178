pub mod Asking
pub mod Beginning

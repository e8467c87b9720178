pub mod Cache
pub mod CacheView
pub mod Ranges
pub mod Trusted
pub mod View

pub mod Same
pub mod Lists
pub mod Sorted
pub mod Views
pub mod Layered
pub mod TreeLaw
pub mod LayerLaw
pub mod KeptLaw

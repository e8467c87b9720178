pub mod Kept
pub mod LabelSet
pub mod Layers
pub mod Links

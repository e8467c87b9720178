pub mod CrlParts
pub mod Making
pub mod OwnedParts

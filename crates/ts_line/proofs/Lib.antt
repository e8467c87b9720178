pub mod Plain
pub mod Listed
pub mod ScopeOctets

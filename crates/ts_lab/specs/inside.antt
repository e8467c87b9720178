pub mod Lab
pub mod Member
pub mod Scanner

pub mod Questions
pub mod Rights

pub mod OneMore
pub mod Rules

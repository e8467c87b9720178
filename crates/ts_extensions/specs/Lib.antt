pub mod Extension
pub mod ExtensionView
pub mod ValueRules
pub mod Valid
pub mod Stated

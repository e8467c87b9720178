mod Settings
mod Chains
mod Explained

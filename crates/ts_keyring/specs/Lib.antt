pub mod Keyring

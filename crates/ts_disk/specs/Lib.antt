pub mod Crash
pub mod Disk
pub mod Fuse
pub mod Memory
pub mod Past
pub mod Replays

pub mod Leaf
pub mod Lines
pub mod Judged
pub mod Report
pub mod inside
pub mod Matching
pub mod Hosts
pub mod Printed

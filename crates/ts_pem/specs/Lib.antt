pub mod Pem
pub mod Printed
pub mod Files
pub mod Blocks
pub mod inside

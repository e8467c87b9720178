pub mod Counts
pub mod Doors
pub mod Rooms
pub mod Sockets
pub mod inside

pub mod Ways
pub mod Rooms
pub mod Taken

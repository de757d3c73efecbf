pub mod Seats
pub mod Planned
pub mod Left

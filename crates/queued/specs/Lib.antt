pub mod Queue
pub mod Planned
pub mod Rowed

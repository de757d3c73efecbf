pub mod Seeks
pub mod Meets
pub mod Counters
pub mod Walked

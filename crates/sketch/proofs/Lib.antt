pub mod Sources
pub mod Counts
pub mod Adding
pub mod Flats

pub mod Flats
pub mod Sorts
pub mod Selecting

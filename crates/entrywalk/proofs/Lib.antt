pub mod Starts
pub mod Stepping
pub mod Fronts
pub mod Lying

pub mod Determined
pub mod Ways
pub mod Deletes
pub mod Cuts
pub mod Outcomes

pub mod Picks
pub mod Dots
pub mod Marking
pub mod Cutting

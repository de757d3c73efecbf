pub mod Kept
pub mod Selected
pub mod Telling

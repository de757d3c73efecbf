pub mod Valued
pub mod Walked

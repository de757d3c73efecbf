pub mod Weaving
pub mod Comings
pub mod Standing
pub mod Merges

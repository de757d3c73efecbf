pub mod Equivalence
pub mod Library

pub mod Readers
pub mod Widening
pub mod Sleds

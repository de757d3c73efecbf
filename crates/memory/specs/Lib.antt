pub mod Memory
pub mod Putting
pub mod Reader

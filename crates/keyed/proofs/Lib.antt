pub mod Entry
pub mod Registers
pub mod Walks

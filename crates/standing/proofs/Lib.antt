pub mod Standings
pub mod Registers

pub mod Bytes
pub mod Records
pub mod Kinds
pub mod Writing

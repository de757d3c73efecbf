pub mod Narrow
pub mod One

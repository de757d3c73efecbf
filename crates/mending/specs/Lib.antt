pub mod Tables
pub mod Fated

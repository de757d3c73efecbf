pub mod Turned
pub mod Classes

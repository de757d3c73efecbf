pub mod Puts
pub mod Nexts
pub mod Lying
pub mod Values
pub mod Updates

pub mod Fates
pub mod Growing
pub mod Whole

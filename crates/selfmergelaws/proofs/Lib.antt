pub mod Selves
pub mod Merges
pub mod Needed
pub mod Puts
pub mod Either

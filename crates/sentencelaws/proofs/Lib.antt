pub mod Holding
pub mod Needing
pub mod Ops
pub mod Three

pub mod MapOver
pub mod Level
pub mod Good
pub mod Laws
pub mod OverLimits
pub mod Validating
pub mod Sled

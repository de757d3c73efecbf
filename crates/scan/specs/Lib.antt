pub mod Each
pub mod Formed
pub mod Limits
pub mod Scanned
pub mod Numbers
pub mod Stepping

pub mod Fates
pub mod Needs
pub mod Indexes
pub mod Steps
pub mod Report
pub mod Calls

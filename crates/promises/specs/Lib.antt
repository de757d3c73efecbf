pub mod Calls
pub mod Deleted
pub mod CatchUp
pub mod Promises
pub mod Ready

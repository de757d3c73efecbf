pub mod Ends
pub mod Calls
pub mod AnyOrder
pub mod Deleted

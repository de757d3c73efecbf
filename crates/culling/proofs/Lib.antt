pub mod Taking
pub mod Marked
pub mod Passes
pub mod Looked
pub mod Ordered
pub mod Needed

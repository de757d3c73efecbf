pub mod Model
pub mod Waits
pub mod Valid
pub mod Counted

pub mod Model
pub mod Entries
pub mod Valid
pub mod Steps

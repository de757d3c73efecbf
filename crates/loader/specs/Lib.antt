pub mod Choice
pub mod Reports
pub mod Calls
pub mod Unnamed

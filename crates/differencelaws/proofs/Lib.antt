pub mod Exactly
pub mod Reports

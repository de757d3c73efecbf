pub mod Accounts
pub mod Survival

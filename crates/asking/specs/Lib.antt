pub mod Asking
pub mod Contexts

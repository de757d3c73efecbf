pub mod Floor
pub mod Steps

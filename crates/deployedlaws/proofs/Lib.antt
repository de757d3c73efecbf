pub mod Unnamed
pub mod OutThere

pub mod Marks
pub mod Looking

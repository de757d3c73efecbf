pub mod Parts
pub mod Packs
pub mod Examples

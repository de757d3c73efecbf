pub mod Packs
pub mod Kept
pub mod Cuts
pub mod Examples

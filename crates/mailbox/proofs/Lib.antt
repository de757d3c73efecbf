pub mod Coming
pub mod Begins
pub mod Cuts

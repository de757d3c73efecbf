pub mod Coming
pub mod SoFar

pub mod OpImage
pub mod SoFar

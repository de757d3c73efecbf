pub mod Reading
pub mod Related
pub mod SoFar

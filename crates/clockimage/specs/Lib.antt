pub mod Image
pub mod ClockImage
pub mod SoFar

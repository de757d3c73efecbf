pub mod Sorted
pub mod MapImage
pub mod Least

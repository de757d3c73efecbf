pub mod Dots
pub mod Leading
pub mod Fourths
pub mod Rooming
pub mod Changing

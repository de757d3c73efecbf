pub mod Risings
pub mod Advances

pub mod Fitting
pub mod Images
pub mod Goods
pub mod Back
pub mod Deletes

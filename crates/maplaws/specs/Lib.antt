pub mod Among
pub mod Ties
pub mod OneKey

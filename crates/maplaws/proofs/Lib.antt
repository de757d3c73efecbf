pub mod United
pub mod Ties
pub mod ResetTies
pub mod LaterKept
pub mod OneKey
pub mod Settled
pub mod Examples

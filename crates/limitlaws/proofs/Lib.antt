pub mod Grows
pub mod Accepting
pub mod Maps
pub mod Images
pub mod Sleds

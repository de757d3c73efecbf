pub mod Pad
pub mod Sift
pub mod First
pub mod Fold
pub mod Weave
pub mod Order
pub mod Limit
pub mod Rise

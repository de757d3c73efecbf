pub mod Walks
pub mod Lowering
pub mod Greatest

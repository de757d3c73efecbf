pub mod OneEntry
pub mod AllEntries
pub mod WholeMap

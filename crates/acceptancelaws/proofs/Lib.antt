pub mod Grouped
pub mod Limited
pub mod Entered
pub mod Waited
pub mod Maps
pub mod Ops

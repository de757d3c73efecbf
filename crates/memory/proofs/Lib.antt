pub mod Regions
pub mod Views
pub mod Looking
pub mod Puts
pub mod Scans
pub mod Holding

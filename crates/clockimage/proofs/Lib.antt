pub mod Dots
pub mod Clocks
pub mod RoundTrip
pub mod Examples

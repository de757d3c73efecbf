pub mod Answers
pub mod Totals
pub mod Distinct
pub mod Lengths

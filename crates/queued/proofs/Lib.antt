pub mod Ahead
pub mod Marking
pub mod Taking
pub mod Cutting
pub mod Ran
pub mod Rowing
pub mod Counting
pub mod Starts

pub mod Model
pub mod Removing
pub mod Updating
pub mod Applying
pub mod Merging
pub mod Resetting
pub mod Judging
pub mod Valid

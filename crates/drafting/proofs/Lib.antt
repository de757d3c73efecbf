pub mod Numbers
pub mod Drafts
pub mod Results
pub mod Asked
pub mod Waits

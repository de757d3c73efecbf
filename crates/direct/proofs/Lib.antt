pub mod Seeking
pub mod Copied

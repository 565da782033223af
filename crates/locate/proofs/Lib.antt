pub mod Found
pub mod Seeking

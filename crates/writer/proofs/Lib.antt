pub mod Laid
pub mod Splicing

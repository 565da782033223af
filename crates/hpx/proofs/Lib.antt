pub mod Searches
pub mod Sizes
pub mod Values

pub mod Splices
pub mod Measures

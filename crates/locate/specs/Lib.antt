pub mod Back
pub mod Turns

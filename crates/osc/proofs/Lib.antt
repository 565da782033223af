pub mod Framing
pub mod Errors
pub mod Masks

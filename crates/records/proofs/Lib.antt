pub mod Bytes
pub mod Numbers
pub mod Passes
pub mod Walking

pub mod Reading
pub mod Walking

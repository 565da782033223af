pub mod Rest
pub mod Found

pub mod Capabilities
pub mod Needs
pub mod Statuses

pub mod Heads
pub mod Entries
pub mod Rising
pub mod Header

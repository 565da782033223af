pub mod ByteStrings
pub mod Sums

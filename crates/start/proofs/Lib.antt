pub mod Listing
pub mod Admission
pub mod Judging

pub mod Absent
pub mod Searching
pub mod Telling
pub mod Terms

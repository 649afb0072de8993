pub mod Joined
pub mod Sorted

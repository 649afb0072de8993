pub mod Sorting
pub mod Cutting

pub mod Notes
pub mod Marks

mod Steps
pub mod Sizes

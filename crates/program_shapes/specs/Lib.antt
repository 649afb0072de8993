pub mod Kept
pub mod Sources

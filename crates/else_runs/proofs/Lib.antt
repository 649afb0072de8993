pub mod Alike
pub mod Runs
pub mod Nested
mod Rows

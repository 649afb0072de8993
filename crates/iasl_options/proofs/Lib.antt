mod Steps
mod Utf8
mod Extensions
mod Values
mod Settings
mod WordForms
pub mod CommandLines
mod Offending
pub mod OneOffending
pub mod Counts
pub mod Tasks
mod Worked
pub mod Directories

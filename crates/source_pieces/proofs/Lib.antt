mod Forms
mod Stepped
pub mod Planned
pub mod Written
mod Counts
pub mod Joined
mod Rows

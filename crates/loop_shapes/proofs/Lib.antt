pub mod Walks
pub mod Names
pub mod Formed
pub mod Unswitchable
pub mod Named
pub mod Folded
pub mod Faithful
mod Rows

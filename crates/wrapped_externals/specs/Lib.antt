pub mod Kinds
pub mod Wraps
pub mod Starts
pub mod Nodes

pub mod Kinds
pub mod Nests
pub mod Nodes

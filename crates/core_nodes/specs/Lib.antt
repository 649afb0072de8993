pub mod Nodes
pub mod Weights
pub mod Whole
pub mod Forms

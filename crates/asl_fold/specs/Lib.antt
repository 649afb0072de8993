pub mod Folds
pub mod Nodes

pub mod Kinds
pub mod Names
pub mod Types
pub mod Sizes

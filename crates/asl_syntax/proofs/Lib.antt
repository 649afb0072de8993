pub mod Symbols
pub mod Heights
pub mod Merged
pub mod Stacks

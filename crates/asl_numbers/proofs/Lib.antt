pub mod Trees
pub mod Loops

pub mod Naming
pub mod Folding
pub mod Looping
pub mod Counting

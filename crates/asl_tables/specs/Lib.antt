pub mod Syntax
pub mod Compiled
pub mod Ready
pub mod Reads
pub mod Early

pub mod Terms
pub mod Said
pub mod Resolving
pub mod Operands
pub mod Walks

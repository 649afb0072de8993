pub mod Begun
pub mod Operators
pub mod Paths
pub mod Texts
pub mod Resources

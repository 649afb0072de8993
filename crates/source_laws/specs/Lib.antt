pub mod Conditionals
pub mod Parts
pub mod Sights
pub mod Opens

pub mod Named
pub mod Owners
pub mod Classes

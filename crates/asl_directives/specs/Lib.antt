pub mod Words
pub mod Forms
pub mod Kinds
pub mod Branches

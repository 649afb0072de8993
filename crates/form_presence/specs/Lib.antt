pub mod Present
pub mod Kinds

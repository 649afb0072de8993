pub mod Labels
pub mod Comments
pub mod Parts
pub mod Source
pub mod Values
pub mod Reading
pub mod Kinds

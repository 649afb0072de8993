pub mod Fits
pub mod Operators
pub mod Values
pub mod Reduced
pub mod Same
pub mod Declared
pub mod Errors
pub mod Formed
pub mod Asked
pub mod Parts
pub mod Sights
pub mod Forms
pub mod Stored
pub mod Nodes
pub mod Places
mod Rows

pub mod Declaring
pub mod Values
pub mod Nodes
pub mod Constants
pub mod Shown

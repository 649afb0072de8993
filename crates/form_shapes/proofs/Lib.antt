pub mod Values
pub mod Kept
pub mod Texts
pub mod Formed
pub mod Light
pub mod Told
pub mod Asked
pub mod Calls
pub mod Names
pub mod Locals
pub mod Faithful
pub mod NearForms
mod Rows

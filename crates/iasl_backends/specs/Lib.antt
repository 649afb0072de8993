pub mod Table
pub mod CText
pub mod Listing
pub mod Lines
pub mod Rendering
pub mod Asked
pub mod Each

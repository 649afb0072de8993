pub mod Near
pub mod Rows

pub mod Named
pub mod Declared
pub mod Errors
pub mod Forms
pub mod KindRows
pub mod Backwards
pub mod Copies
pub mod Givens
pub mod Turns
pub mod Lowered
pub mod Places
mod Rows

pub mod Told
pub mod Values
pub mod Repeats
pub mod Locals

pub mod Bits
pub mod Lookup

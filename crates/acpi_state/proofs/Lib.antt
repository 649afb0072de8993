pub mod Readings
pub mod Lookups
pub mod Splices

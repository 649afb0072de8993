pub mod Sites
pub mod Measures
pub mod Regions
pub mod Shown
pub mod Places

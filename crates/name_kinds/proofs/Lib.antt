pub mod Entries
pub mod Lookups
pub mod Places
pub mod Written
pub mod Noting
pub mod Chains
pub mod Following
pub mod Seeing

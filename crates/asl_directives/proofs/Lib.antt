pub mod Ends
pub mod Counts
pub mod Texts
pub mod Places

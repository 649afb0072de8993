pub mod Units
pub mod Joins
pub mod Forms
pub mod Nodes
pub mod Walks
pub mod Places
pub mod Absent

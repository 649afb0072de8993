pub mod Searches
pub mod Agreements
pub mod SameSessions
pub mod Lasting

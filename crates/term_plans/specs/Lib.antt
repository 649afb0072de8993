pub mod Plans
pub mod Places

pub mod Forms
pub mod Terms
pub mod Walks
pub mod Capped
pub mod Formed

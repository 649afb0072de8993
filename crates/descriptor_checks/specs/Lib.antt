pub mod Senses
pub mod Resolved
pub mod Told
pub mod Fields
pub mod Shown
pub mod Resolves

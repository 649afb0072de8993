pub mod Around
pub mod Descriptors
pub mod Shapes
pub mod AtRaw
pub mod Forms

pub mod Files
pub mod Decision
pub mod Boxes
pub mod Noted

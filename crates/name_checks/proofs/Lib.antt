pub mod Finding
pub mod Noting
pub mod Walks
pub mod Blocks

pub mod Told
pub mod Findings
pub mod Present

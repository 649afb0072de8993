pub mod FragmentLaws
pub mod Joined
pub mod Skips
mod Worked

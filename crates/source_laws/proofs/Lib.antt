pub mod Conditionals
pub mod Wholes
pub mod Bytes
pub mod Strings
pub mod Longest
pub mod Walks
pub mod Lexed
pub mod Lines
pub mod Sights
pub mod Fronts
pub mod Leads
pub mod Depths
mod Worked

pub mod History
pub mod Table
pub mod Firsts
pub mod Clear
pub mod Replacement

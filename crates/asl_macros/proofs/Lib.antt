pub mod TableLaws
mod Values
mod Worked
pub mod Undefined
pub mod Clear
pub mod Marking

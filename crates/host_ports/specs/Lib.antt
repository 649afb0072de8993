pub mod Whole
pub mod ProgramText

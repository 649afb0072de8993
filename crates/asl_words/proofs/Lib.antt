mod Tables
pub mod FormatLaws
mod PathLaws

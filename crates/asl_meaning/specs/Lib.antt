pub mod FieldTerms
pub mod Meaning
pub mod Declarations
pub mod SourceSession
pub mod Starts
pub mod Continues

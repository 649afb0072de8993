pub mod Spelling
pub mod Turns
pub mod SpelledForms
pub mod SpelledNodes
pub mod SpelledPlaces
pub mod Forms

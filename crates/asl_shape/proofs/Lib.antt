pub mod ItemLaws
pub mod Braces
pub mod Descriptors
pub mod FieldLaws
pub mod Shapes
pub mod FieldSteps
pub mod Units
pub mod Places

pub mod Texts
pub mod Severity
pub mod Order
pub mod OrderLaws
pub mod Console
pub mod ConsoleLaws
pub mod Cut

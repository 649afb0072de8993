pub mod Bytes
pub mod Sorting
pub mod Texts
pub mod Sizes
pub mod Readings
mod Strict
mod Devices
pub mod Headline
pub mod TemplateLaws
pub mod Pieces
pub mod Fates
pub mod Refusals
mod Outputs
pub mod Made
mod Calls

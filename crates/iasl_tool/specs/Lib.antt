pub mod Sources
pub mod Told
pub mod Due
pub mod Outputs
pub mod Outside
pub mod Headline
pub mod Refusals
pub mod Calls

pub mod Plans
pub mod Terms
pub mod Lists
pub mod Constants

pub mod Units
pub mod Lists

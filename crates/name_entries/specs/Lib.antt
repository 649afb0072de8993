pub mod Uses
pub mod Descriptors
pub mod Placed
pub mod Entries

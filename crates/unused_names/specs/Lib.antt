pub mod Unused
pub mod Left
pub mod Uses
pub mod Bare

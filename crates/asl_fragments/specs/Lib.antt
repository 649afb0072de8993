pub mod Bytes
pub mod Fragments

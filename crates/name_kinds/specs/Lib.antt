pub mod Kinds
pub mod Tables
pub mod Depths
pub mod Ends
pub mod Facts
pub mod Seen
pub mod Known

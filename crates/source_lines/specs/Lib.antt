pub mod Text
pub mod Order
pub mod Tells

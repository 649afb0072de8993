mod Added
mod Ordered

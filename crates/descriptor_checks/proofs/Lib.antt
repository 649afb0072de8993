pub mod Following
pub mod Placing
pub mod Owning
pub mod Telling
pub mod Naming
pub mod Senses
pub mod Noting

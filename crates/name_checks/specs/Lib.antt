pub mod Messages
pub mod Faults
pub mod Before
pub mod Calls
pub mod Refusals

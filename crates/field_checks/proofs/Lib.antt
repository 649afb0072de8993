pub mod UnitFaults
pub mod Terms
pub mod Walk
pub mod Absent

pub mod Class
pub mod Scan
pub mod Marks
pub mod Cut
pub mod Fine
pub mod Within
pub mod Runs

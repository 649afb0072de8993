pub mod Steps
pub mod Bits
pub mod Sound
pub mod Complete
pub mod Told
pub mod FineTokens
pub mod Within
pub mod Runs

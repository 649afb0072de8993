pub mod Noting
pub mod Placing
pub mod Describing
pub mod Flagging

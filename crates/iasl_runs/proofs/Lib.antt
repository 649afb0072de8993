pub mod Stopped
pub mod PutSoFar

pub mod Codes
pub mod Encoded
pub mod ByteMeaning
pub mod ByteSession

pub mod Numbers
pub mod Operators
pub mod Tokens
pub mod Reading
pub mod Condition
pub mod Grammar
pub mod Worth

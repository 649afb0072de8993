pub mod CommentSteps
pub mod Ends
pub mod Pairs
pub mod Worked
pub mod Homes
pub mod Sizes

pub mod Steps
pub mod EachLaws
pub mod KindLaws

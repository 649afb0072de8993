mod NameLaws
mod OutputLaws
mod KindLaws
pub mod BoxLaws

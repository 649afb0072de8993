pub mod ToldInPart

pub mod FrontReads
pub mod Shortest
pub mod CodedBytes
pub mod NameLengths
pub mod BitCounts
pub mod ShortestCounts

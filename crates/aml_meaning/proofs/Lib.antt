pub mod CodeReads

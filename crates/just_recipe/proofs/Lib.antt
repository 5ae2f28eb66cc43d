pub mod GroupLemmas
pub mod Headings
pub mod Writing

pub mod SameTexts
pub mod Indexing

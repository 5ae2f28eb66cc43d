pub mod Gaps
pub mod Grouping
pub mod Listed
pub mod Ordering
pub mod Refusing
pub mod Sameness
pub mod Sets
pub mod Walks

pub mod Bound
pub mod Ordered
pub mod Spelling
pub mod Standing
pub mod Widths

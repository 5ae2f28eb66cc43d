pub mod Counts
pub mod Holding
pub mod Leading
pub mod Resolving
pub mod Returning
pub mod Searching
pub mod Walking

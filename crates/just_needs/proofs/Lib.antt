pub mod Decisions
pub mod Leads
pub mod Needed
pub mod Passages
pub mod Readers
pub mod Sets

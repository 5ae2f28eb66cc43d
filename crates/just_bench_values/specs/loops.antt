pub mod Constants
pub mod Lookup
pub mod Tasks

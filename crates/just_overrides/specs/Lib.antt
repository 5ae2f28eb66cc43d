pub mod Applied
pub mod Inserted
pub mod Reached

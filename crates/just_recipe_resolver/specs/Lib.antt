pub mod Resolved
pub mod loops

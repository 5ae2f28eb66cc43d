pub mod Causes
pub mod Halts
pub mod Messages
pub mod Wording
pub mod loops

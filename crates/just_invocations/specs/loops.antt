pub mod Head
pub mod Meaning

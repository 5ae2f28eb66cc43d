pub mod Cause
pub mod Head
pub mod Meaning
pub mod Split
pub mod Words
pub mod loops

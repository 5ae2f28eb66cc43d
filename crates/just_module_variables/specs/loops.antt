pub mod Constants
pub mod Documented
pub mod Numbered
pub mod Numbering
pub mod Places
pub mod Steps

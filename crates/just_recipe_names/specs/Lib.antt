pub mod Numbered
pub mod Steps
pub mod loops

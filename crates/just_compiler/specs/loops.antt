pub mod Analyzed
pub mod Parts
pub mod Steps

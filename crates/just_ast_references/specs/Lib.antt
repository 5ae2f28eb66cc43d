pub mod Mentions
pub mod Numbers
pub mod Parts
pub mod References
pub mod loops

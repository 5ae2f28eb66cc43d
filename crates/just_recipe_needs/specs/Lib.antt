pub mod Asked
pub mod Collected
pub mod Known
pub mod Needed
pub mod loops

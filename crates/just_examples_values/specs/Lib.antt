pub mod Bound
pub mod loops

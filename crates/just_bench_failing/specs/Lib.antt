pub mod Failing
pub mod loops

pub mod Aliased
pub mod loops

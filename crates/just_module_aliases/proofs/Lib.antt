pub mod Aliasing
pub mod Defaults
pub mod Later

pub mod Noted
pub mod Paths
pub mod Targets
pub mod loops

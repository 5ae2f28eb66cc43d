pub mod Answered
pub mod Dependency
pub mod Environments
pub mod Lines
pub mod Parameters
pub mod Refusals
pub mod loops

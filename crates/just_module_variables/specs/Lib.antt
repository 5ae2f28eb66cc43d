pub mod Constants
pub mod Documented
pub mod Numbered
pub mod Overrides
pub mod Resolved
pub mod Variables
pub mod Resolver
pub mod loops

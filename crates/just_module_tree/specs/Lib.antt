pub mod Groups
pub mod Modules
pub mod Overrides
pub mod Standing

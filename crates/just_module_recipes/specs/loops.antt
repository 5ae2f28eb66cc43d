pub mod Broken
pub mod Completed
pub mod Completing
pub mod Links
pub mod Making
pub mod Planned
pub mod Rows

pub mod Completed
pub mod Completing
pub mod Given
pub mod Linked
pub mod Links
pub mod Making
pub mod Rows
pub mod loops

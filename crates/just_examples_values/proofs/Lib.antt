pub mod Binding
pub mod Closed
pub mod Covered

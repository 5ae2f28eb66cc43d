pub mod Pattern
pub mod loops

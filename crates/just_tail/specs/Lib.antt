pub mod Words
pub mod Options
pub mod Pieces
pub mod Steps
pub mod Cause
pub mod Tail
pub mod Checks
pub mod loops

pub mod Among
pub mod Valued
pub mod loops

pub mod Edge
pub mod loops

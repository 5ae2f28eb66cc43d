pub mod Through
pub mod loops

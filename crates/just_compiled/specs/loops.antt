pub mod Analysis
pub mod Settled

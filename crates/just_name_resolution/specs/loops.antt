pub mod Nodes
pub mod Search

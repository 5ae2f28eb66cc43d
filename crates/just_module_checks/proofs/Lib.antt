pub mod Docs
pub mod GroupGrounds

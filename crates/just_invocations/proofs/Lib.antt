pub mod Advancing
pub mod Decides
pub mod Faults
pub mod HeadLemmas
pub mod Holding
pub mod Readings
pub mod SplitLemmas
pub mod Unique

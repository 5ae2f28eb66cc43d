pub mod Constants
pub mod Counts
pub mod Lookup
pub mod Settings
pub mod Sink
pub mod Values
pub mod loops

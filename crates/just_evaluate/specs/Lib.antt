pub mod Asked
pub mod Destination
pub mod Lines
pub mod Writing
pub mod loops

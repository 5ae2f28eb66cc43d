pub mod Analyzed
pub mod Compiled
pub mod Readings
pub mod Rules
pub mod loops

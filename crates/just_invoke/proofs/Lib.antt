pub mod Commands
pub mod Evaluations
pub mod Namings
pub mod Outcomes
pub mod Wholes

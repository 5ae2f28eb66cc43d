pub mod Analysis
pub mod Evaluated
pub mod Justfiles
pub mod Labelled
pub mod Variables
pub mod loops

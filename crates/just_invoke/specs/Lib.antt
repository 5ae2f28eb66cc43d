pub mod Command
pub mod Evaluation
pub mod Lazily
pub mod Outcome
pub mod Results
pub mod Whole
pub mod loops

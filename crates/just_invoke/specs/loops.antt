pub mod Command
pub mod Evaluation
pub mod Outcome
pub mod Results

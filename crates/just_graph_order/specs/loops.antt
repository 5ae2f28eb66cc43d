pub mod Came
pub mod Finished
pub mod Path

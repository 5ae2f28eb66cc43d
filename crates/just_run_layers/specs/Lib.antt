pub mod Covering
pub mod Evaluation
pub mod Host
pub mod LineTexts
pub mod Interactions
pub mod loops

pub mod Numbering
pub mod Recipe

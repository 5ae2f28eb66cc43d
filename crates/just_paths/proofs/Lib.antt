pub mod Joins
pub mod ModulepathLemmas
pub mod PathTexts
pub mod Slashes

pub mod Contents
pub mod Defaults
pub mod Kept
pub mod Recipes

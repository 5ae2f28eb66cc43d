pub mod Grouping
pub mod RecipeTexts
pub mod Recipes
pub mod Resolved
pub mod Script
pub mod Starred

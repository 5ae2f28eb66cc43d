pub mod Calls
pub mod RecipeRun

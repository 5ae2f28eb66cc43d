pub mod Barred
pub mod Counted
pub mod Finding
pub mod Finished
pub mod Grounds
pub mod Held
pub mod Made
pub mod Nearby
pub mod Ordering
pub mod PathKeys
pub mod Planned
pub mod Planning
pub mod RecipeCircles
pub mod SameSets
pub mod Splits
pub mod Steps
pub mod Zipped
mod Completed
mod NumberedValues
mod OwnRules

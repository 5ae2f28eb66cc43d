pub mod Analyzing
pub mod Compilable
pub mod Compilations
pub mod Forests
pub mod Grounds
pub mod Keeping
pub mod Linking
pub mod Meant
pub mod Meeting
pub mod NamesRead
pub mod Numbers
pub mod Ordered
pub mod OwnNumbers
mod OwnRules
pub mod Placed
pub mod Readings
pub mod Runnable
mod Numbered

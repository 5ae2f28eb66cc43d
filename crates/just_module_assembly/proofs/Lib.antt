pub mod Adding
pub mod ShownPaths

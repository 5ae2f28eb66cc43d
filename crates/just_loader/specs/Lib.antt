pub mod FileCircles
pub mod Keys
pub mod Links
pub mod Loaded
pub mod ModuleFile
pub mod Reached
pub mod Sources
pub mod loops

pub mod Layers
pub mod PartsOf
pub mod Sizes

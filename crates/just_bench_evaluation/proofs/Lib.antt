pub mod Binding
pub mod Gives
pub mod LineEnds
pub mod Turned

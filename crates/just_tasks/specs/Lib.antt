pub mod Homes
pub mod Leading
pub mod Pairs
pub mod Scene

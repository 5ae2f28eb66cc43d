pub mod Arguments
pub mod Frames
pub mod Homes
pub mod Lower
pub mod Pairs
pub mod TaskInteractions

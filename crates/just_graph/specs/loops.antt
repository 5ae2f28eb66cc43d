pub mod Found
pub mod Path
pub mod Search
pub mod Unfolded
pub mod Unfolding

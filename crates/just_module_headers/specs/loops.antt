pub mod Files
pub mod Joined
pub mod OfPlaces

pub mod Analyzable
pub mod Files
pub mod Joined
pub mod OfPlaces
pub mod Reading
pub mod loops

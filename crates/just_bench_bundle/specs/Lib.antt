pub mod Bundle
pub mod Input
pub mod Near
pub mod Places
pub mod loops

pub mod Bundle
pub mod Places
pub mod Walk

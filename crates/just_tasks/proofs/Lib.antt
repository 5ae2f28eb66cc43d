pub mod Lone
pub mod Places

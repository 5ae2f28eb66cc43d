pub mod Misnaming
pub mod Scopes

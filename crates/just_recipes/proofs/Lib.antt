pub mod Places
pub mod RecipeLemmas

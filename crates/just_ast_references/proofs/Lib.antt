pub mod Fold
pub mod Induction
pub mod Layers
pub mod MentionsOf
pub mod NumbersOf
pub mod Renumbering
pub mod Stack

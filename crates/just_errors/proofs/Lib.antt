pub mod Lifts
pub mod Pieces

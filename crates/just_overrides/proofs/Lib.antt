pub mod Inserting
pub mod Kept
pub mod Leading
pub mod Once
pub mod Ruling
pub mod Stepping
pub mod Variables

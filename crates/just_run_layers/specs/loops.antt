pub mod Interactions

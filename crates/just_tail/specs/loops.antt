pub mod Options
pub mod Reader
pub mod Words

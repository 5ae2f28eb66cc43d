pub mod Closed
pub mod Module
pub mod Running
pub mod Walks
pub mod loops

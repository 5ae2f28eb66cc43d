pub mod Called
pub mod Lent
pub mod Numbers
pub mod loops

pub mod Identifier
pub mod ListFeature
pub mod Name
pub mod Number
pub mod Texts
pub mod Token
pub mod Index
pub mod loops

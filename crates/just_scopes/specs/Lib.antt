pub mod Need
pub mod Open
pub mod Opening
pub mod Preorder
pub mod loops

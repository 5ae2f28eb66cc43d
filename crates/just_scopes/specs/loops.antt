pub mod Need
pub mod Opening
pub mod Opens
pub mod Preorder
pub mod Scoped
pub mod Wanting

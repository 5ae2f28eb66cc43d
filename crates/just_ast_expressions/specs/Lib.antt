pub mod ExpressionText
pub mod Parts
pub mod Settings
pub mod loops

pub mod Attributes
pub mod Body
pub mod Confirmation
pub mod Covering
pub mod Judging
pub mod Taking

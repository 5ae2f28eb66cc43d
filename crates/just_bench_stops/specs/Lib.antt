pub mod Attributes
pub mod Body
pub mod Definitions
pub mod Heading
pub mod Marks
pub mod Parts
pub mod Stops
pub mod Tokens

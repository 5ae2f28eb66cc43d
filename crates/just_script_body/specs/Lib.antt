pub mod Executors
pub mod ScriptAttributes
pub mod ScriptBody
pub mod loops

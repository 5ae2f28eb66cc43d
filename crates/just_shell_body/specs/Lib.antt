pub mod Lines
pub mod ShellBody
pub mod loops

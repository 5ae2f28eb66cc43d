pub mod Clean
pub mod Join
pub mod Modulepath
pub mod loops

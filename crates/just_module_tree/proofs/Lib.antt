pub mod Agreeing
pub mod Headed
pub mod ModulePaths
pub mod ModulePlaces
pub mod Ready
pub mod VariableNumbers

pub mod DefinitionTexts
pub mod Parameter

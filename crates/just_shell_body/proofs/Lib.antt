pub mod GroupLemmas
pub mod ShellLemmas
pub mod TextLemmas

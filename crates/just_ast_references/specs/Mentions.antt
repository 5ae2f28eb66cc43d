-- What an expression mentions: calls and variables, by their texts.
use Rattle.std.specs.Prelude.{ℕ, List}
use Rattle.just_names.specs.Name.{text_of_name}
use Rattle.just_ast_references.specs.declared.references.Reference.{Reference}
use Rattle.just_ast_references.specs.declared.references.Reference.TheVariants as reference

-- a call of a function with so many arguments, or a variable, by its text alone
pub data Mention : Type 0 where
  Calls : List ℕ → ℕ → Mention
  Names : List ℕ → Mention

abbrev pub mention_of : Reference → Mention
mention_of (reference.Call name arguments) = Calls (text_of_name name) arguments
mention_of (reference.Variable name) = Names (text_of_name name)

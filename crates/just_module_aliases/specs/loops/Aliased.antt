-- What private functions say beside `Aliased.antt`.
use Rattle.std.specs.Prelude.{◌≡◌, None, Some}
use Rattle.just_ast_definitions.specs.declared.alias.Alias.{Alias}
use Rattle.just_errors.specs.Causes.{Cause, Broken}
use Rattle.just_errors.specs.declared.compile_error.CompileErrorKind.TheVariants as kind
use Rattle.just_justfile.specs.declared.aliases.Aliases.{Aliases}
use Rattle.just_module_aliases.specs.declared.aliases.AliasMeaning.{AliasMeaning}
use Rattle.just_names.specs.Name.{text_of_name}
use Rattle.just_names.specs.declared.name.Namepath.{Namepath}
use Rattle.just_module_aliases.specs.Aliased.{Targets, alias_meant, with_meaning}

-- an alias means something, and is added to tables
pub record IsAdded (t : Targets) (alias : Alias Namepath) (before after : Aliases) : Type 0 where
  pub it : AliasMeaning
  pub means : alias_meant t alias.target ≡ Some it
  pub is : after ≡ with_meaning before alias it

-- The target of an alias means nothing. It is told at the alias's name.
pub data UnknownTarget (t : Targets) (alias : Alias Namepath) : Cause → Type 0 where
  no_meaning : alias_meant t alias.target ≡ None → UnknownTarget t alias (Broken alias.name.token (kind.UnknownAliasTarget (text_of_name alias.name) alias.target))

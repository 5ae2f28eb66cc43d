-- What private functions say beside `Arguments.antt`.
use Rattle.std.specs.Prelude.{List}
use Rattle.std.specs.List.{All}
use Rattle.just_parts.specs.Known.{Known}
use Rattle.just_ast_expressions.specs.declared.scope.Scope.{Scope}
use Rattle.just_recipe.specs.declared.dependency.Dependency.{Dependency}
use Rattle.just_recipe.specs.declared.dependency.DependencyArgument.{DependencyArgument}
use Rattle.just_run_layers.specs.Covering.{IsCovered}

-- for the private functions: what the arguments of a group, and those of a dependency, read is bound in a scope
abbrev pub IsReadableArgument : Known → Scope → DependencyArgument → Type 0
IsReadableArgument m scope a = IsCovered m scope a.expression

abbrev pub AreReadableArguments : Known → Scope → List DependencyArgument → Type 0
AreReadableArguments m scope arguments = All (IsReadableArgument m scope) arguments

abbrev pub AreReadableGroups : Known → Scope → List (List DependencyArgument) → Type 0
AreReadableGroups m scope groups = All (AreReadableArguments m scope) groups

abbrev pub IsGivenIn : Known → Scope → Dependency → Type 0
IsGivenIn m scope d = AreReadableGroups m scope d.arguments

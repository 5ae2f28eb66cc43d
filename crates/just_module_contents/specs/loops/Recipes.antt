-- What private functions say beside `Recipes.antt`.
use Rattle.std.specs.Prelude.{ℕ, List}
use Rattle.just_ast_definitions.specs.declared.parameter.Parameter.{Parameter}
use Rattle.just_module_contents.specs.Recipes.{FollowsDefault}

-- no parameter that needs a word follows one with a default
abbrev pub NoneFollows : List Parameter → Type 0
NoneFollows parameters = (place : ℕ) → FollowsDefault parameters place → ⊥

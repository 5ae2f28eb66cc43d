use Rattle.std.specs.HashSet.{contains}
use Rattle.std.specs.Str.{bytes_eq}
use Rattle.just_module_contents.specs.RecipeNames.{written_scopes}
use Rattle.just_name_resolution.specs.Lent.{tables_in}
use Rattle.just_recipe_names.specs.Steps.{events}
use Rattle.just_recipe_needs.proofs.Walked.{NamedSoFar}
use Rattle.just_recipe_needs.proofs.direct_names.direct_names.Given as goal

abbrev pub invariant-loop-step : goal.invariant-loop-step
invariant-loop-step g l =
    NamedSoFar (tables_in l.tables) (written_scopes (g.S.Syntax.answers l.syntax) l.settings l.recipe) (contains bytes_eq l.hidden) (events l.step-iterator.rest.items) l.names

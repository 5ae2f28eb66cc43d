use Rattle.std.specs.HashSet.{contains}
use Rattle.std.specs.Str.{bytes_eq}
use Rattle.just_name_resolution.specs.Lent.{known_in}
use Rattle.just_module_contents.specs.RecipeNames.{written_scopes}
use Rattle.just_recipe_names.specs.Steps.{events}
use Rattle.just_recipe_names.proofs.Checked.{CheckedSoFar}
use Rattle.just_recipe_names.proofs.recipe_checks.check_recipe.Given as goal

abbrev pub invariant-loop-step : goal.invariant-loop-step
invariant-loop-step g l =
    let answers = g.S.Syntax.answers l.known.syntax.now in
    CheckedSoFar (known_in answers l.known) (written_scopes answers l.settings l.recipe) (contains bytes_eq l.hidden) (events l.step-iterator.rest.items)

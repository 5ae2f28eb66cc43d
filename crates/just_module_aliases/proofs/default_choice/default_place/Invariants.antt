use Rattle.just_recipe.specs.Recipes.{numbers}
use Rattle.just_module_contents.specs.Definitions.{recipes_in}
use Rattle.just_module_contents.specs.Defaults.{IsDefaultPlace}
use Rattle.just_module_aliases.proofs.default_choice.default_place.Given as goal

abbrev pub invariant-loop-place : goal.invariant-loop-place
invariant-loop-place l = IsDefaultPlace (numbers l.resolved) (recipes_in l.own) l.place l.best

use Rattle.std.proofs.Common.{◌≡◌, map}
use Rattle.just_module_contents.specs.Definitions.{recipes_in}
use Rattle.just_recipe_resolver.proofs.recipe_resolver.recipes_of.Given as goal

abbrev pub invariant-loop-recipe : goal.invariant-loop-recipe
invariant-loop-recipe l = recipes_in l.definitions ≡ map (λ a. a.now) l.yielded

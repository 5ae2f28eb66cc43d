use Rattle.std.proofs.Common.{take}
use Rattle.std.specs.List.{All}
use Rattle.just_module_contents.specs.Definitions.{recipes_in}
use Rattle.just_module_contents.specs.Recipes.{recipe_at}
use Rattle.just_module_recipes.specs.loops.Making.{IsGiven}
use Rattle.just_module_recipes.specs.loops.Rows.{around_by}
use Rattle.just_module_recipes.proofs.counts.check_dependencies.Given as goal

abbrev pub invariant-loop-at : goal.invariant-loop-at
invariant-loop-at l = All (IsGiven l.settings.lists (recipes_in l.kept) (around_by l.it)) (take l.at (recipe_at (recipes_in l.kept) l.place).dependencies)

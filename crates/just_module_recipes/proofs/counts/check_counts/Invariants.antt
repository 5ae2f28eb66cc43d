use Rattle.just_module_contents.specs.Definitions.{recipes_in}
use Rattle.just_module_recipes.specs.loops.Making.{AreGivenSets}
use Rattle.just_module_recipes.specs.loops.Rows.{around_by}
use Rattle.just_module_recipes.proofs.counts.check_counts.Given as goal

abbrev pub invariant-loop-place : goal.invariant-loop-place
invariant-loop-place l = AreGivenSets l.settings.lists (recipes_in l.kept) (around_by l.it) l.sets l.place

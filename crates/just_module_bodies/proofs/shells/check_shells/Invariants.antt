use Rattle.std.proofs.Common.{ℕ, ◌<◌}
use Rattle.just_errors.specs.Causes.{Keeps}
use Rattle.just_module_contents.specs.Definitions.{recipes_in}
use Rattle.just_module_contents.specs.Recipes.{recipe_at}
use Rattle.just_module_contents.specs.Shells.{BreaksShellRecipe}
use Rattle.just_module_bodies.proofs.shells.check_shells.Given as goal

abbrev pub invariant-loop-place : goal.invariant-loop-place
invariant-loop-place g l = (k : ℕ) → k < l.place → Keeps (BreaksShellRecipe (g.S.Syntax.answers l.syntax) l.settings (recipe_at (recipes_in l.definitions) k))

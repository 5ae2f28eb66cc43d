use Rattle.std.proofs.Common.{◌≡◌, ℕ, ◌<◌, [], slice_index}
use Rattle.just_errors.specs.Causes.{Keeps}
use Rattle.just_module_contents.specs.Definitions.{recipes_in}
use Rattle.just_module_contents.specs.Recipes.{recipe_at}
use Rattle.just_module_recipes.specs.Completed.{BreaksOne, completed_by}
use Rattle.just_module_recipes.specs.loops.Making.{SoFar}
use Rattle.just_module_recipes.specs.Rows.{keys_at}
use Rattle.just_module_recipes.proofs.resolution.resolve.Given as goal

abbrev pub invariant-loop-n : goal.invariant-loop-n
invariant-loop-n g l =
    let it = l.completing in
    let answers = g.S.Syntax.answers it.meanings.syntax.now in
    let evaluator = g.E.ConstantEvaluation.answers it.among.evaluation.now in
    let rs = recipes_in l.kept in
    SoFar (completed_by answers evaluator it) it.references.now it.meanings.settings.now.lists rs l.module_path l.rows l.sets l.order l.n l.initial.recipes l.recipes
    × ((k : ℕ) → k < l.n → keys_at l.sets (slice_index l.order k) ≡ [] → Keeps (BreaksOne answers evaluator it (recipe_at rs (slice_index l.order k))))

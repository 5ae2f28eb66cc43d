use Rattle.std.proofs.Common.{◌≡◌, ◌<◌, ◌∙◌, ◌++◌, ℕ, List, [], ap, arith, get_or, inl, inr, length, rules, slice_index, subst, sym}
use Rattle.std.proofs.lemmas.Bool.{cases_lt}
use Rattle.std.proofs.lemmas.List.{get_or_default}
use Rattle.std.proofs.lemmas.Result.{IfErr-weaker}
use Rattle.just_errors.proofs.Lifts.{reports_by}
use Rattle.just_errors.specs.Causes.{Keeps, Reports}
use Rattle.std.specs.BTreeSet.{BTreeSet}
use Rattle.std.specs.List.{All, Contains}
use Rattle.just_module_contents.proofs.RecipePlaces.{length-lent}
use Rattle.just_module_contents.specs.Definitions.{recipes_in}
use Rattle.just_module_contents.specs.Recipes.{recipe_at}
use Rattle.just_module_recipes.specs.loops.Making.{IsThere, target_number, settled_of}
use Rattle.just_module_recipes.specs.Rows.{keys_at, no_paths}
use Rattle.just_module_recipes.specs.declared.targets.Target.{Target}
use Rattle.just_module_recipes.proofs.Barred.{told_at}
use Rattle.just_module_recipes.proofs.Made.{all_there, is_new, numbers_held, so_far}
use Rattle.just_paths.specs.declared.modulepath.Modulepath.{Modulepath}
use Rattle.just_recipe.specs.Recipes.{numbers}
use Rattle.just_module_recipes.specs.Completed.{BreaksOne, TellsOne, completed_by}
use Rattle.just_module_recipes.specs.loops.Completed.{OfUndisabled, of_one}
use Rattle.just_module_recipes.proofs.Completed.{is_completing}
use Rattle.just_module_recipes.proofs.resolution.resolve.Goals as goal

pub resolve_at-requires-clause-there : goal.resolve_at-requires-clause-there
resolve_at-requires-clause-there g c = λ e.
    let it = c.args.completing.now in
    let by = completed_by (g.S.Syntax.answers it.meanings.syntax.now) (g.E.ConstantEvaluation.answers it.among.evaluation.now) it in
    let completes = is_completing (g.S.Syntax.answers it.meanings.syntax.now) (g.E.ConstantEvaluation.answers it.among.evaluation.now) it in
    let rs = recipes_in c.args.kept.now in
    let long : length rs ≡ length c.args.kept.now.recipes.items = length-lent c.args.kept.now.recipes.items in
    let place : ℕ = slice_index c.args.order.now c.loop-n.n in
    let inside : place < length c.args.rows.now = c.requires.order.below c.loop-n.n c.loop-n-test.true in
    let within : place < length c.args.sets.now = omega (arith, inside, c.requires.rows, c.requires.sets) in
    let row : c.as_slice.result.now ≡ get_or c.args.rows.now place [] = c.as_slice.ensures ∙ (c.index-rows-place.is ∙ get_or_default c.args.rows.now place c.index-rows-place.result [] inside) in
    let set : c.index-sets-place.result ≡ get_or c.args.sets.now place no_paths = c.index-sets-place.is ∙ get_or_default c.args.sets.now place c.index-sets-place.result no_paths within in
    let keys : c.index-sets-place.result.keys ≡ keys_at c.args.sets.now place = ap (λ (s : BTreeSet Modulepath). s.keys) set in
    let many : length c.args.rows.now ≡ length rs = c.requires.rows ∙ sym long in
    let bars = told_at c.args.rows.now c.args.order.now c.args.sets.now c.requires.order c.requires.told in
    subst (All (IsThere rs c.loop-n.recipes)) (sym row) (all_there by completes it.references.now it.meanings.settings.now.lists rs c.args.module_path.now c.args.rows.now c.args.sets.now c.args.recipes c.requires.once c.requires.apart c.args.order.now c.requires.order many bars c.requires.there c.loop-n.n c.loop-n-test.true c.loop-n.recipes c.loop-n.invariant.0 (sym keys ∙ e))

pub resolve_at-requires-clause-is_new : goal.resolve_at-requires-clause-is_new
resolve_at-requires-clause-is_new g c = λ e.
    let it = c.args.completing.now in
    let by = completed_by (g.S.Syntax.answers it.meanings.syntax.now) (g.E.ConstantEvaluation.answers it.among.evaluation.now) it in
    let completes = is_completing (g.S.Syntax.answers it.meanings.syntax.now) (g.E.ConstantEvaluation.answers it.among.evaluation.now) it in
    let rs = recipes_in c.args.kept.now in
    let long : length rs ≡ length c.args.kept.now.recipes.items = length-lent c.args.kept.now.recipes.items in
    let many : length c.args.rows.now ≡ length rs = c.requires.rows ∙ sym long in
    is_new by completes it.references.now it.meanings.settings.now.lists rs c.args.module_path.now c.args.rows.now c.args.sets.now c.args.recipes c.requires.once c.requires.apart c.args.order.now c.requires.order many c.loop-n.n c.loop-n-test.true c.loop-n.recipes c.loop-n.invariant.0.new_is

pub resolve_at-requires-clause-numbers : goal.resolve_at-requires-clause-numbers
resolve_at-requires-clause-numbers g c = λ e.
    let it = c.args.completing.now in
    let by = completed_by (g.S.Syntax.answers it.meanings.syntax.now) (g.E.ConstantEvaluation.answers it.among.evaluation.now) it in
    let completes = is_completing (g.S.Syntax.answers it.meanings.syntax.now) (g.E.ConstantEvaluation.answers it.among.evaluation.now) it in
    let rs = recipes_in c.args.kept.now in
    let long : length rs ≡ length c.args.kept.now.recipes.items = length-lent c.args.kept.now.recipes.items in
    let place : ℕ = slice_index c.args.order.now c.loop-n.n in
    let inside : place < length c.args.rows.now = c.requires.order.below c.loop-n.n c.loop-n-test.true in
    let within : place < length c.args.sets.now = omega (arith, inside, c.requires.rows, c.requires.sets) in
    let row : c.as_slice.result.now ≡ get_or c.args.rows.now place [] = c.as_slice.ensures ∙ (c.index-rows-place.is ∙ get_or_default c.args.rows.now place c.index-rows-place.result [] inside) in
    let set : c.index-sets-place.result ≡ get_or c.args.sets.now place no_paths = c.index-sets-place.is ∙ get_or_default c.args.sets.now place c.index-sets-place.result no_paths within in
    let keys : c.index-sets-place.result.keys ≡ keys_at c.args.sets.now place = ap (λ (s : BTreeSet Modulepath). s.keys) set in
    let many : length c.args.rows.now ≡ length rs = c.requires.rows ∙ sym long in
    let bars = told_at c.args.rows.now c.args.order.now c.args.sets.now c.requires.order c.requires.told in
    subst (All (λ t. Contains (numbers c.loop-n.recipes) (target_number rs t).0)) (sym row) (numbers_held by completes it.references.now it.meanings.settings.now.lists rs c.args.module_path.now c.args.rows.now c.args.sets.now c.args.recipes c.requires.once c.requires.apart c.args.order.now c.requires.order many bars c.requires.there c.loop-n.n c.loop-n-test.true c.loop-n.recipes c.loop-n.invariant.0 (sym keys ∙ e))

pub resolve_at-requires-clause-covered : goal.resolve_at-requires-clause-covered
resolve_at-requires-clause-covered g c =
    let rs = recipes_in c.args.kept.now in
    let long : length rs ≡ length c.args.kept.now.recipes.items = length-lent c.args.kept.now.recipes.items in
    let inside = c.requires.order.below c.loop-n.n c.loop-n-test.true in
    c.requires.covered (slice_index c.args.order.now c.loop-n.n) (omega (arith, inside, long, c.requires.rows))

pub returns-in_err-resolve_at-clause-named : goal.returns-in_err-resolve_at-clause-named
returns-in_err-resolve_at-clause-named g c =
    let it = c.args.completing.now in
    let tells = TellsOne (g.S.Syntax.answers it.meanings.syntax.now) (g.E.ConstantEvaluation.answers it.among.evaluation.now) it in
    let rs = recipes_in c.args.kept.now in
    let long : length rs ≡ length c.args.kept.now.recipes.items = length-lent c.args.kept.now.recipes.items in
    let place : ℕ = slice_index c.args.order.now c.loop-n.n in
    let inside : place < length c.args.rows.now = c.requires.order.below c.loop-n.n c.loop-n-test.true in
    let within : place < length c.args.sets.now = omega (arith, inside, c.requires.rows, c.requires.sets) in
    let set : c.index-sets-place.result ≡ get_or c.args.sets.now place no_paths = c.index-sets-place.is ∙ get_or_default c.args.sets.now place c.index-sets-place.result no_paths within in
    let keys : c.index-sets-place.result.keys ≡ keys_at c.args.sets.now place = ap (λ (s : BTreeSet Modulepath). s.keys) set in
    IfErr-weaker c.from_residual.result (Reports (λ x. (c.index-sets-place.result.keys ≡ []) × tells (recipe_at rs place) x)) _
    (λ e h. reports_by (λ x. (c.index-sets-place.result.keys ≡ []) × tells (recipe_at rs place) x) (OfUndisabled tells rs c.args.sets.now) (λ x k. of_one place (omega (arith, inside, long, c.requires.rows)) (sym keys ∙ k.0) k.1) e h) (search rules)

pub returns-clause-kept : goal.returns-clause-kept
returns-clause-kept g c = λ i h empty.
    let it = c.args.completing.now in
    let breaks = BreaksOne (g.S.Syntax.answers it.meanings.syntax.now) (g.E.ConstantEvaluation.answers it.among.evaluation.now) it in
    let rs = recipes_in c.args.kept.now in
    let long : length rs ≡ length c.args.kept.now.recipes.items = length-lent c.args.kept.now.recipes.items in
    let k = c.requires.order.all i (omega (arith, h, long, c.requires.rows)) in
    let is : slice_index c.args.order.now k.0 ≡ i = get_or_default c.args.order.now k.0 0 i k.1 ∙ k.2 in
    subst (λ x. Keeps (breaks (recipe_at rs x))) is (c.loop-n.invariant.1 k.0 (omega (arith, k.1, c.loop-n-test.false)) (ap (keys_at c.args.sets.now) is ∙ empty))

pub loop-n-preserved : goal.loop-n-preserved
loop-n-preserved g c =
    let it = c.args.completing.now in
    let by = completed_by (g.S.Syntax.answers it.meanings.syntax.now) (g.E.ConstantEvaluation.answers it.among.evaluation.now) it in
    let completes = is_completing (g.S.Syntax.answers it.meanings.syntax.now) (g.E.ConstantEvaluation.answers it.among.evaluation.now) it in
    let rs = recipes_in c.args.kept.now in
    let long : length rs ≡ length c.args.kept.now.recipes.items = length-lent c.args.kept.now.recipes.items in
    let place : ℕ = slice_index c.args.order.now c.loop-n.n in
    let inside : place < length c.args.rows.now = c.requires.order.below c.loop-n.n c.loop-n-test.true in
    let within : place < length c.args.sets.now = omega (arith, inside, c.requires.rows, c.requires.sets) in
    let row : c.as_slice.result.now ≡ get_or c.args.rows.now place [] = c.as_slice.ensures ∙ (c.index-rows-place.is ∙ get_or_default c.args.rows.now place c.index-rows-place.result [] inside) in
    let set : c.index-sets-place.result ≡ get_or c.args.sets.now place no_paths = c.index-sets-place.is ∙ get_or_default c.args.sets.now place c.index-sets-place.result no_paths within in
    let keys : c.index-sets-place.result.keys ≡ keys_at c.args.sets.now place = ap (λ (s : BTreeSet Modulepath). s.keys) set in
    let many : length c.args.rows.now ≡ length rs = c.requires.rows ∙ sym long in
    let bars = told_at c.args.rows.now c.args.order.now c.args.sets.now c.requires.order c.requires.told in
    let breaks = BreaksOne (g.S.Syntax.answers it.meanings.syntax.now) (g.E.ConstantEvaluation.answers it.among.evaluation.now) it in (
      so_far by completes it.references.now it.meanings.settings.now.lists rs c.args.module_path.now c.args.rows.now c.args.sets.now c.args.recipes c.requires.once c.requires.apart c.args.order.now c.requires.order many bars c.requires.there c.loop-n.n c.loop-n-test.true c.loop-n.recipes c.loop-n.invariant.0 c.resolve_at.new.recipes
          (c.in_ok-resolve_at.ensures.made ∙ (ap (λ (ts : List Target). c.loop-n.recipes ++ settled_of by it.references.now it.meanings.settings.now.lists rs c.loop-n.recipes c.args.module_path.now ts c.index-sets-place.result.keys place) row
          ∙ ap (λ (ks : List Modulepath). c.loop-n.recipes ++ settled_of by it.references.now it.meanings.settings.now.lists rs c.loop-n.recipes c.args.module_path.now (get_or c.args.rows.now place []) ks place) keys)),
      λ k h empty. elim (cases_lt k c.loop-n.n) [
        | inl l ↦ c.loop-n.invariant.1 k l empty
        | inr l ↦
            let at : c.loop-n.n ≡ k = omega (arith, h, l) in
            subst (λ x. Keeps (breaks (recipe_at rs (slice_index c.args.order.now x)))) at (c.in_ok-resolve_at.ensures.kept (keys ∙ (ap (λ x. keys_at c.args.sets.now (slice_index c.args.order.now x)) at ∙ empty)))
      ],
    )

use Rattle.std.proofs.Common.{◌≡◌, ◌<◌, ◌∙◌, [], ap, arith, get_or, length, subst, sym}
use Rattle.std.proofs.lemmas.Grind.{common_steps}
use Rattle.std.proofs.lemmas.List.{get_or_default, nil_from_length}
use Rattle.std.specs.BTreeSet.{BTreeSet}
use Rattle.std.specs.List.{All}
use Rattle.just_module_contents.proofs.RecipePlaces.{length-lent}
use Rattle.just_module_contents.specs.Definitions.{recipes_in}
use Rattle.just_module_contents.specs.Recipes.{recipe_at}
use Rattle.just_module_recipes.specs.loops.Making.{IsThere}
use Rattle.just_module_recipes.specs.Rows.{keys_at, no_paths}
use Rattle.just_module_recipes.specs.loops.Rows.{AreTargets, around_by}
use Rattle.just_module_recipes.proofs.Counted.{given_more}
use Rattle.just_module_recipes.proofs.Finished.{empty_stands}
use Rattle.just_paths.specs.declared.modulepath.Modulepath.{Modulepath}
use Rattle.just_module_recipes.proofs.counts.check_counts.Goals as goal

pub loop-place-preserved-then-not-is_empty : goal.loop-place-preserved-then-not-is_empty
loop-place-preserved-then-not-is_empty c =
    let rs = recipes_in c.args.kept.now in
    given_more c.args.settings.now.lists rs (around_by c.args.it.now) c.args.sets.now c.loop-place.place c.loop-place.invariant (λ e.
    absurd (grind (arith, common_steps)))

pub check_dependencies-requires-clause-row : goal.check_dependencies-requires-clause-row
check_dependencies-requires-clause-row c =
    let rs = recipes_in c.args.kept.now in
    let long : length rs ≡ length c.args.kept.now.recipes.items = length-lent c.args.kept.now.recipes.items in
    let inside : c.loop-place.place < length rs = omega (arith, c.loop-place-test.true, c.len-place-end.ensures, long) in
    let below : c.loop-place.place < length c.args.rows.now = omega (arith, inside, long, c.requires.rows.count) in
    let row : c.as_slice.result.now ≡ get_or c.args.rows.now c.loop-place.place [] = c.as_slice.ensures ∙ (c.index-rows-place.is ∙ get_or_default c.args.rows.now c.loop-place.place c.index-rows-place.result [] below) in
    subst (AreTargets rs (around_by c.args.it.now) (recipe_at rs c.loop-place.place).dependencies) (sym row) (c.requires.rows.each c.loop-place.place (omega (arith, inside, long)))

pub check_dependencies-requires-clause-there : goal.check_dependencies-requires-clause-there
check_dependencies-requires-clause-there c =
    let rs = recipes_in c.args.kept.now in
    let long : length rs ≡ length c.args.kept.now.recipes.items = length-lent c.args.kept.now.recipes.items in
    let inside : c.loop-place.place < length rs = omega (arith, c.loop-place-test.true, c.len-place-end.ensures, long) in
    let within : c.loop-place.place < length c.args.sets.now = omega (arith, inside, c.requires.sets.count) in
    let set : c.index-sets-place.result ≡ get_or c.args.sets.now c.loop-place.place no_paths = c.index-sets-place.is ∙ get_or_default c.args.sets.now c.loop-place.place c.index-sets-place.result no_paths within in
    let keys : c.index-sets-place.result.keys ≡ keys_at c.args.sets.now c.loop-place.place = ap (λ (s : BTreeSet Modulepath). s.keys) set in
    let zero : length c.index-sets-place.result.keys ≡ 0 = grind (arith, common_steps) in
    let empty : keys_at c.args.sets.now c.loop-place.place ≡ [] = sym keys ∙ nil_from_length c.index-sets-place.result.keys zero in
    let below : c.loop-place.place < length c.args.rows.now = omega (arith, inside, long, c.requires.rows.count) in
    let row : c.as_slice.result.now ≡ get_or c.args.rows.now c.loop-place.place [] = c.as_slice.ensures ∙ (c.index-rows-place.is ∙ get_or_default c.args.rows.now c.loop-place.place c.index-rows-place.result [] below) in
    subst (All (IsThere rs c.args.it.now.recipes.now)) (sym row) (c.requires.there c.loop-place.place below empty)

pub check_dependencies-requires-clause-stands : goal.check_dependencies-requires-clause-stands
check_dependencies-requires-clause-stands c =
    let rs = recipes_in c.args.kept.now in
    let long : length rs ≡ length c.args.kept.now.recipes.items = length-lent c.args.kept.now.recipes.items in
    let inside : c.loop-place.place < length rs = omega (arith, c.loop-place-test.true, c.len-place-end.ensures, long) in
    let within : c.loop-place.place < length c.args.sets.now = omega (arith, inside, c.requires.sets.count) in
    let set : c.index-sets-place.result ≡ get_or c.args.sets.now c.loop-place.place no_paths = c.index-sets-place.is ∙ get_or_default c.args.sets.now c.loop-place.place c.index-sets-place.result no_paths within in
    let keys : c.index-sets-place.result.keys ≡ keys_at c.args.sets.now c.loop-place.place = ap (λ (s : BTreeSet Modulepath). s.keys) set in
    let zero : length c.index-sets-place.result.keys ≡ 0 = grind (arith, common_steps) in
    let empty : keys_at c.args.sets.now c.loop-place.place ≡ [] = sym keys ∙ nil_from_length c.index-sets-place.result.keys zero in
    empty_stands rs (around_by c.args.it.now) c.args.sets.now c.requires.sets c.loop-place.place inside empty

pub loop-place-preserved : goal.loop-place-preserved
loop-place-preserved c =
    let rs = recipes_in c.args.kept.now in
    given_more c.args.settings.now.lists rs (around_by c.args.it.now) c.args.sets.now c.loop-place.place c.loop-place.invariant (λ e. c.in_ok-check_dependencies.ensures.given)

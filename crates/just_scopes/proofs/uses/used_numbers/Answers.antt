use Rattle.std.proofs.Common.{◌≡◌, ◌∙◌, ◌+◌, ◌<◌, ◌||◌, length, suc, take, Some, refl, ap, subst, arith, rules}
use Rattle.std.proofs.Math.Seq.{take-length}
use Rattle.std.proofs.lemmas.Option.{slice_get_read}
use Rattle.std.specs.HashSet.{contains}
use Rattle.std.specs.List.{list_any, slice_get}
use Rattle.just_parts.specs.Needs.{same_number}
use Rattle.just_scopes.proofs.Turning.{take-at}
use Rattle.just_scopes.proofs.Using.{AreUsedAt, all-used, more-used}
use Rattle.just_scopes.proofs.uses.used_numbers.Goals as goal

pub loop-index-preserved : goal.loop-index-preserved
loop-index-preserved c =
    let items = c.in_ok-found.found.items in
    let index = c.loop-index.index in
    let place = c.index.result.now in
    let recipe = c.recipe_at-recipe.result.now in
    let within : index < length items = search rules in
    let at : slice_get items index ≡ Some place = slice_get_read items (length items) index place refl within c.index.ensures in
    let one : index + 1 ≡ suc index = omega arith in
    let refs : c.as_slice.result.now ≡ recipe.variable_references = search rules in
    more-used c.args.recipes.now (take index items) (take (index + 1) items) place recipe (contains same_number c.loop-index.used) (contains same_number c.add_numbers.new.set)
    (ap (λ k. take k items) one ∙ take-at items index place at) c.recipe_at-recipe.ensures
    (λ n. c.in_ok-add_numbers.ensures n ∙ ap (λ ns. contains same_number c.loop-index.used n || list_any (same_number n) ns) refs) c.loop-index.invariant

pub returns : goal.returns
returns c =
    let items = c.in_ok-found.found.items in
    let last : c.loop-index.index ≡ length items = search rules in
    all-used c.args.recipes.now c.args.tops.now items (contains same_number c.loop-index.used) c.in_ok-found.ensures.led
    (subst (λ places. AreUsedAt c.args.recipes.now places (contains same_number c.loop-index.used)) (ap (λ k. take k items) last ∙ take-length items) c.loop-index.invariant)

use Rattle.std.proofs.Common.{◌≡◌, ◌<◌, arith, get_or, length, sym}
use Rattle.std.proofs.lemmas.Option.{get_or_from_slice_get, slice_get_within}
use Rattle.just_module_contents.specs.Recipes.{lent}
use Rattle.just_recipe_resolver.proofs.Given.{link_next}
use Rattle.just_recipe_resolver.proofs.unresolved_recipe.links_to.Goals as goal

pub loop-at-preserved : goal.loop-at-preserved
loop-at-preserved c =
    let ds = c.args.dependencies.now in
    let ts = lent c.args.beside.now.recipes.items in
    let at = c.loop-at.at in
    let t = c.lent_at.result.now in
    let at_t : t ≡ get_or ts at t = sym (get_or_from_slice_get ts at t t c.lent_at.ensures) in
    let in_t : at < length ts = slice_get_within ts at t c.lent_at.ensures in
    let in_d : at < length ds = omega (arith, c.loop-at-test.true) in
    link_next c.args.settings.now.lists ds ts at c.index-dependencies-at.result t in_d in_t c.index-dependencies-at.is at_t c.in_ok-link_to.field-0 c.loop-at.made.items c.push.new.self.items c.loop-at.invariant c.in_ok-link_to.ensures c.in_ok-push.ensures.items

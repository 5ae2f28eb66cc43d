use Rattle.std.proofs.Common.{◌≡◌, ◌<◌, arith, get_or, length, sym, rules}
use Rattle.std.proofs.lemmas.Option.{get_or_from_slice_get, slice_get_within}
use Rattle.std.proofs.lemmas.Result.{IfErr-weaker}
use Rattle.just_errors.proofs.Lifts.{reports_by}
use Rattle.just_errors.specs.Causes.{Reports}
use Rattle.just_module_contents.specs.Recipes.{lent}
use Rattle.just_module_recipes.specs.Given.{Misgiven}
use Rattle.just_recipe_resolver.specs.Resolved.{GivesWrongly}
use Rattle.just_recipe_resolver.proofs.Given.{right_all, right_more, wrong_told}
use Rattle.just_recipe_resolver.proofs.unresolved_recipe.check_given.Goals as goal

pub returns-in_err-check_arguments-clause-named : goal.returns-in_err-check_arguments-clause-named
returns-in_err-check_arguments-clause-named c =
    let lists = c.args.settings.now.lists in
    let ds = c.args.dependencies.now in
    let ts = lent c.args.beside.now.recipes.items in
    let at = c.loop-at.at in
    let d = c.index-dependencies-at.result in
    let t = c.lent_at.result.now in
    let range = c.argument_range-range.result in
    let at_t : t ≡ get_or ts at t = sym (get_or_from_slice_get ts at t t c.lent_at.ensures) in
    let in_t : at < length ts = slice_get_within ts at t c.lent_at.ensures in
    let in_d : at < length ds = omega (arith, c.loop-at-test.true) in
    IfErr-weaker c.from_residual.result (Reports (Misgiven lists d range.min range.max)) _
    (λ e h. reports_by (Misgiven lists d range.min range.max) (GivesWrongly lists ds ts)
    (wrong_told lists ds ts at d t range.min range.max in_d in_t c.index-dependencies-at.is at_t c.argument_range-range.ensures.least c.argument_range-range.ensures.most) e h) (search rules)

pub loop-at-preserved : goal.loop-at-preserved
loop-at-preserved c =
    let ts = lent c.args.beside.now.recipes.items in
    let at = c.loop-at.at in
    let t = c.lent_at.result.now in
    let range = c.argument_range-range.result in
    let at_t : t ≡ get_or ts at t = sym (get_or_from_slice_get ts at t t c.lent_at.ensures) in
    right_more c.args.settings.now.lists c.args.dependencies.now ts at c.index-dependencies-at.result t range.min range.max c.index-dependencies-at.is at_t c.argument_range-range.ensures.least c.argument_range-range.ensures.most
    c.loop-at.invariant c.in_ok-check_arguments.ensures.kept

pub returns-clause-kept : goal.returns-clause-kept
returns-clause-kept c =
    right_all c.args.settings.now.lists c.args.dependencies.now (lent c.args.beside.now.recipes.items) (λ k h. c.loop-at.invariant k (omega (arith, h, c.loop-at-test.false)))

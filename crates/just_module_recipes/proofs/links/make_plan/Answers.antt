use Rattle.std.proofs.Common.{rules, ◌≡◌, List, length, subst, subst₂, sym}
use Rattle.std.proofs.lemmas.Result.{IfErr-weaker}
use Rattle.std.specs.BTreeSet.{BTreeSet}
use Rattle.just_errors.proofs.Lifts.{reports_by}
use Rattle.just_errors.specs.Causes.{Reports}
use Rattle.just_module_contents.proofs.RecipePlaces.{length-lent}
use Rattle.just_module_contents.specs.Definitions.{recipes_in}
use Rattle.just_module_recipes.specs.Links.{BreaksLinks}
use Rattle.just_module_recipes.specs.loops.Making.{AreAllThere, AreExact, AreGivenSets}
use Rattle.just_module_recipes.specs.loops.Planned.{IsPlan}
use Rattle.just_module_recipes.specs.loops.Rows.{Circular, Lost, around_by}
use Rattle.just_module_recipes.specs.declared.links.Plan.{Plan}
use Rattle.just_module_recipes.proofs.Planning.{is_plan}
use Rattle.just_module_recipes.proofs.Planned.{circle_breaks, links_kept, lost_breaks}
use Rattle.just_paths.specs.declared.modulepath.Modulepath.{Modulepath}
use Rattle.just_module_recipes.proofs.links.make_plan.Goals as goal

pub returns-in_err-rows-clause-named : goal.returns-in_err-rows-clause-named
returns-in_err-rows-clause-named c =
    let lists = c.args.settings.now.lists in
    let rs = recipes_in c.args.kept.now in
    let it = around_by c.args.it.now in
    IfErr-weaker c.from_residual-in_err-rows.result (λ e. e ≡ c.in_err-rows.field-0.0) (Reports (BreaksLinks lists rs it))
    (λ e is. subst (Reports (BreaksLinks lists rs it)) (sym is) (reports_by (Lost rs it) (BreaksLinks lists rs it) (lost_breaks lists rs it) c.in_err-rows.field-0.0 c.in_err-rows.ensures.named)) (search rules)

pub returns-in_err-order-clause-named : goal.returns-in_err-order-clause-named
returns-in_err-order-clause-named c =
    let lists = c.args.settings.now.lists in
    let rs = recipes_in c.args.kept.now in
    let it = around_by c.args.it.now in
    IfErr-weaker c.from_residual-in_err-order.result (λ e. e ≡ c.in_err-order.field-0.0) (Reports (BreaksLinks lists rs it))
    (λ e is. subst (Reports (BreaksLinks lists rs it)) (sym is) (reports_by (Circular rs) (BreaksLinks lists rs it) (circle_breaks lists rs it) c.in_err-order.field-0.0 c.in_err-order.ensures.named)) (search rules)

pub check_counts-requires-clause-sets : goal.check_counts-requires-clause-sets
check_counts-requires-clause-sets c =
    let rs = recipes_in c.args.kept.now in
    let it = around_by c.args.it.now in
    let long : length rs ≡ length c.args.kept.now.recipes.items = length-lent c.args.kept.now.recipes.items in
    let plan : Plan = record { rows = c.in_ok-rows.rows; order = c.in_ok-order.order; sets = c.in_ok-sets.sets } in
    let is : IsPlan rs it plan = is_plan rs c.requires.different it c.requires.settled plan (length c.args.kept.now.recipes.items) long c.in_ok-rows.ensures.rows c.as_slice.result.now c.as_slice-2.result.now c.as_slice-3.result.now
    c.as_slice.ensures.value c.as_slice-2.ensures.value c.as_slice-3.ensures.value c.in_ok-order.ensures.ordered c.in_ok-sets.ensures.count c.in_ok-sets.ensures.told in
    subst (AreExact rs it) (sym c.as_slice-5.ensures.value) is.exact

pub check_counts-requires-clause-there : goal.check_counts-requires-clause-there
check_counts-requires-clause-there c =
    let rs = recipes_in c.args.kept.now in
    let it = around_by c.args.it.now in
    let long : length rs ≡ length c.args.kept.now.recipes.items = length-lent c.args.kept.now.recipes.items in
    let plan : Plan = record { rows = c.in_ok-rows.rows; order = c.in_ok-order.order; sets = c.in_ok-sets.sets } in
    let is : IsPlan rs it plan = is_plan rs c.requires.different it c.requires.settled plan (length c.args.kept.now.recipes.items) long c.in_ok-rows.ensures.rows c.as_slice.result.now c.as_slice-2.result.now c.as_slice-3.result.now
    c.as_slice.ensures.value c.as_slice-2.ensures.value c.as_slice-3.ensures.value c.in_ok-order.ensures.ordered c.in_ok-sets.ensures.count c.in_ok-sets.ensures.told in
    subst₂ (AreAllThere rs it.held) (sym c.as_slice-4.ensures.value) (sym c.as_slice-5.ensures.value) is.there

pub returns-clause-kept : goal.returns-clause-kept
returns-clause-kept c =
    let rs = recipes_in c.args.kept.now in
    let it = around_by c.args.it.now in
    let long : length rs ≡ length c.args.kept.now.recipes.items = length-lent c.args.kept.now.recipes.items in
    let plan : Plan = record { rows = c.in_ok-rows.rows; order = c.in_ok-order.order; sets = c.in_ok-sets.sets } in
    let is : IsPlan rs it plan = is_plan rs c.requires.different it c.requires.settled plan (length c.args.kept.now.recipes.items) long c.in_ok-rows.ensures.rows c.as_slice.result.now c.as_slice-2.result.now c.as_slice-3.result.now
    c.as_slice.ensures.value c.as_slice-2.ensures.value c.as_slice-3.ensures.value c.in_ok-order.ensures.ordered c.in_ok-sets.ensures.count c.in_ok-sets.ensures.told in
    let lists = c.args.settings.now.lists in
    links_kept lists rs it plan.rows.items is.rows c.in_ok-order.ensures.kept plan.sets.items is.exact
    (subst (AreGivenSets lists rs it plan.sets.items) (sym long) (subst (λ (xs : List (BTreeSet Modulepath)). AreGivenSets lists rs it xs (length c.args.kept.now.recipes.items)) c.as_slice-5.ensures.value c.in_ok-check_counts.ensures.given))

pub returns-clause-plan : goal.returns-clause-plan
returns-clause-plan c =
    let rs = recipes_in c.args.kept.now in
    let it = around_by c.args.it.now in
    let long : length rs ≡ length c.args.kept.now.recipes.items = length-lent c.args.kept.now.recipes.items in
    let plan : Plan = record { rows = c.in_ok-rows.rows; order = c.in_ok-order.order; sets = c.in_ok-sets.sets } in
    let is : IsPlan rs it plan = is_plan rs c.requires.different it c.requires.settled plan (length c.args.kept.now.recipes.items) long c.in_ok-rows.ensures.rows c.as_slice.result.now c.as_slice-2.result.now c.as_slice-3.result.now
    c.as_slice.ensures.value c.as_slice-2.ensures.value c.as_slice-3.ensures.value c.in_ok-order.ensures.ordered c.in_ok-sets.ensures.count c.in_ok-sets.ensures.told in
    is

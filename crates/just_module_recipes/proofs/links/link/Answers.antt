use Rattle.std.proofs.Common.{rules, ◌≡◌, ◌<◌, ◌∙◌, ◌++◌, ℕ, List, [], ap, arith, get_or, length, subst, sym}
use Rattle.std.proofs.lemmas.Result.{IfErr-weaker}
use Rattle.std.specs.BTreeSet.{BTreeSet}
use Rattle.just_errors.proofs.Lifts.{reports_by}
use Rattle.just_errors.specs.Causes.{Reports}
use Rattle.just_module_contents.specs.Definitions.{recipes_in}
use Rattle.just_module_contents.specs.Recipes.{recipe_at}
use Rattle.just_module_contents.specs.Standing.{AreStanding}
use Rattle.just_module_recipes.specs.Linked.{disabled_table}
use Rattle.just_module_recipes.specs.Links.{BreaksLinks, Stands, around_recipes}
use Rattle.just_module_recipes.specs.Making.{standing}
use Rattle.just_module_recipes.specs.loops.Making.{fallen, made}
use Rattle.just_module_recipes.specs.loops.Planned.{IsPlan}
use Rattle.just_module_recipes.specs.loops.Rows.{IsTargetOf}
use Rattle.just_module_recipes.specs.declared.targets.Target.{Target}
use Rattle.just_module_recipes.proofs.Finished.{adds_linked}
use Rattle.just_module_recipes.proofs.Splits.{disabled_exact, standing_exact}
use Rattle.just_module_recipes.proofs.Zipped.{zip_length}
use Rattle.just_paths.specs.declared.modulepath.Modulepath.{Modulepath}
use Rattle.just_module_recipes.specs.Completed.{BreaksOne, KeepOwn, TellsLinks, TellsOne, completed_by, of_links, of_own}
use Rattle.just_module_recipes.specs.loops.Completed.{OfUndisabled}
use Rattle.just_module_recipes.proofs.Completed.{is_completing}
use Rattle.just_module_recipes.proofs.OwnRules.{own_kept, own_told}
use Rattle.just_module_recipes.proofs.links.link.Goals as goal

pub resolve-requires-clause-counts : goal.resolve-requires-clause-counts
resolve-requires-clause-counts g c =
    let rs = recipes_in c.args.kept.now in
    let it = around_recipes c.args.absent.now c.args.modules.now c.args.recipes in
    let plan : IsPlan rs it c.in_ok-rows.field-0 = c.in_ok-rows.ensures.plan in
    let rows = c.in_ok-rows.field-0.rows.items in
    let read : c.as_slice.result.now ≡ rows = search rules in
    subst (λ (xs : List (List Target)). (k : ℕ) → k < length xs → length (get_or xs k []) ≡ length (recipe_at rs k).dependencies) (sym read)
    (λ k h. zip_length (IsTargetOf rs it) (recipe_at rs k).dependencies (get_or rows k []) (plan.rows.each k (omega (arith, h, plan.rows.count))))

pub returns-clause-standing : goal.returns-clause-standing
returns-clause-standing g c =
    let rs = recipes_in c.args.kept.now in
    let it = around_recipes c.args.absent.now c.args.modules.now c.args.recipes in
    let plan : IsPlan rs it c.in_ok-rows.field-0 = c.in_ok-rows.ensures.plan in
    let sets = c.in_ok-rows.field-0.sets.items in
    let is : recipes_in c.in_ok-standing.standing ≡ standing sets rs = c.in_ok-standing.ensures.standing in
    subst (AreStanding (Stands rs it) rs) (sym is) (standing_exact rs it sets plan.exact)

pub returns-clause-disabled : goal.returns-clause-disabled
returns-clause-disabled g c =
    let rs = recipes_in c.args.kept.now in
    let it = around_recipes c.args.absent.now c.args.modules.now c.args.recipes in
    let plan : IsPlan rs it c.in_ok-rows.field-0 = c.in_ok-rows.ensures.plan in
    let sets = c.in_ok-rows.field-0.sets.items in
    let is : c.in_ok-standing.disabled.items ≡ fallen sets rs = search rules in
    (fallen sets rs, disabled_exact rs it sets plan.exact, c.in_ok-disabled.ensures.all ∙ ap disabled_table is)

pub returns-clause-linked : goal.returns-clause-linked
returns-clause-linked g c =
    let rs = recipes_in c.args.kept.now in
    let it = around_recipes c.args.absent.now c.args.modules.now c.args.recipes in
    let plan : IsPlan rs it c.in_ok-rows.field-0 = c.in_ok-rows.ensures.plan in
    let rows = c.in_ok-rows.field-0.rows.items in
    let order = c.in_ok-rows.field-0.order.items in
    let sets = c.in_ok-rows.field-0.sets.items in
    let read : c.as_slice.result.now ≡ rows = search rules in
    let listed : c.as_slice-2.result.now ≡ order = search rules in
    let told : c.as_slice-3.result.now ≡ sets = search rules in
    let done = c.args.completing.now in
    let answers = g.S.Syntax.answers done.meanings.syntax.now in
    let evaluator = g.E.ConstantEvaluation.answers done.among.evaluation.now in
    let by = completed_by answers evaluator done in
    let needed = done.references.now in
    let lists = done.meanings.settings.now.lists in
    let path = c.args.module_path.now in
    adds_linked rs it sets plan.exact c.requires.different rows plan.rows by (is_completing answers evaluator done) needed lists path c.requires.once c.requires.priors c.requires.apart order plan.order plan.there c.in_ok-rows.ensures.kept c.in_ok-all.all
    (c.in_ok-all.ensures.made ∙ (ap (λ (xs : List (List Target)). c.args.recipes ++ made by needed lists rs c.args.recipes path xs c.as_slice-3.result.now c.as_slice-2.result.now) read
    ∙ (ap (λ (xs : List (BTreeSet Modulepath)). c.args.recipes ++ made by needed lists rs c.args.recipes path rows xs c.as_slice-2.result.now) told
    ∙ ap (λ (xs : List ℕ). c.args.recipes ++ made by needed lists rs c.args.recipes path rows sets xs) listed)))

pub returns-clause-own : goal.returns-clause-own
returns-clause-own g c =
    let rs = recipes_in c.args.kept.now in
    let it = around_recipes c.args.absent.now c.args.modules.now c.args.recipes in
    let plan : IsPlan rs it c.in_ok-rows.field-0 = c.in_ok-rows.ensures.plan in
    let done = c.args.completing.now in
    let answers = g.S.Syntax.answers done.meanings.syntax.now in
    let evaluator = g.E.ConstantEvaluation.answers done.among.evaluation.now in
    let told : c.as_slice-3.result.now ≡ c.in_ok-rows.field-0.sets.items = search rules in
    own_kept rs it c.in_ok-rows.field-0.sets.items plan.exact (BreaksOne answers evaluator done) (subst (KeepOwn answers evaluator done rs) told c.in_ok-all.ensures.kept)

pub returns-in_err-rows-clause-named : goal.returns-in_err-rows-clause-named
returns-in_err-rows-clause-named g c =
    let rs = recipes_in c.args.kept.now in
    let it = around_recipes c.args.absent.now c.args.modules.now c.args.recipes in
    let done = c.args.completing.now in
    let lists = done.meanings.settings.now.lists in
    let tells = TellsOne (g.S.Syntax.answers done.meanings.syntax.now) (g.E.ConstantEvaluation.answers done.among.evaluation.now) done in
    IfErr-weaker c.from_residual.result (Reports (BreaksLinks lists rs it)) _ (λ e h. reports_by (BreaksLinks lists rs it) (TellsLinks lists tells rs it) (λ x k. of_links k) e h) (search rules)

pub returns-in_err-all-clause-named : goal.returns-in_err-all-clause-named
returns-in_err-all-clause-named g c =
    let rs = recipes_in c.args.kept.now in
    let it = around_recipes c.args.absent.now c.args.modules.now c.args.recipes in
    let plan : IsPlan rs it c.in_ok-rows.field-0 = c.in_ok-rows.ensures.plan in
    let sets = c.in_ok-rows.field-0.sets.items in
    let done = c.args.completing.now in
    let lists = done.meanings.settings.now.lists in
    let tells = TellsOne (g.S.Syntax.answers done.meanings.syntax.now) (g.E.ConstantEvaluation.answers done.among.evaluation.now) done in
    let told : c.as_slice-3.result.now ≡ sets = search rules in
    IfErr-weaker c.from_residual-in_err-all.result (Reports (OfUndisabled tells rs c.as_slice-3.result.now)) _
    (λ e h. reports_by (OfUndisabled tells rs c.as_slice-3.result.now) (TellsLinks lists tells rs it)
    (λ x k. of_own c.in_ok-rows.ensures.kept (own_told rs it sets plan.exact tells x (subst (λ ss. OfUndisabled tells rs ss x) told k))) e h) (search rules)

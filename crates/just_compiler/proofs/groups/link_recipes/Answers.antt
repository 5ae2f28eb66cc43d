use Rattle.std.proofs.Common.{◌≡◌, ◌⊎◌, IfOk, List, ap, subst, subst₂, sym, rules}
use Rattle.std.specs.Prelude.{IfErr}
use Rattle.std.specs.List.{All}
use Rattle.std.specs.HashMap.{get}
use Rattle.std.specs.Str.{bytes_eq}
use Rattle.std.proofs.lemmas.Result.{IfErr-weaker, IfOk-weaker}
use Rattle.just_compiler.specs.loops.Parts.{TellsChecked, around_by, completion_here}
use Rattle.just_errors.specs.Causes.{Cause, Keeps, Reports}
use Rattle.just_errors.proofs.Lifts.{reports_by}
use Rattle.just_graph.proofs.Members.{contained, is_in}
use Rattle.just_graph.specs.Steps.{IsOnce}
use Rattle.just_module_contents.specs.Definitions.{contents_in, recipes_in}
use Rattle.just_module_contents.specs.Kept.{kept_recipes}
use Rattle.just_module_contents.specs.RecipeValues.{IsPastLimits}
use Rattle.just_module_contents.specs.Recipes.{names_of}
use Rattle.just_module_contents.specs.Resolved.{AreNew, HasPriors, unresolved_numbers}
use Rattle.just_module_contents.specs.Rules.{BreaksBodies}
use Rattle.just_module_contents.specs.Standing.{InStanding}
use Rattle.just_module_contents.proofs.Keeping.{kept_all, kept_different, kept_number, kept_once}
use Rattle.just_module_recipes.specs.loops.Broken.{BreaksRecipes, in_bodies}
use Rattle.just_module_recipes.specs.Completed.{TellsLinks}
use Rattle.just_module_recipes.specs.Links.{BreaksLinks, Stands, around_recipes}
use Rattle.just_names.specs.Index.{AreDifferent}
use Rattle.just_parts.specs.Evaluator.{scope_values}
use Rattle.just_parts.specs.Layers.{given_by, layers_at}
use Rattle.just_recipe.specs.declared.dependency.UnresolvedDependency.{UnresolvedDependency}
use Rattle.just_recipe.specs.declared.recipe.Recipe.{Recipe}
use Rattle.just_recipe_names.specs.Numbered.{numbered_recipe}
use Rattle.just_recipe_values.specs.Valued.{with_values}
use Rattle.just_compiler.proofs.NamesRead.{rule_back, rule_here, rule_said, value_here, value_same}
use Rattle.just_compiler.proofs.Numbered.{links_as, told_numbers}
use Rattle.just_compiler.proofs.OwnRules.{covers_kept, links_told, standing_so}
use Rattle.just_compiler.proofs.groups.link_recipes.Goals as goal

pub resolve_kept-requires-clause-different : goal.resolve_kept-requires-clause-different
resolve_kept-requires-clause-different g c = subst (λ (rs : List (Recipe UnresolvedDependency)). AreDifferent (names_of rs)) (sym c.in_ok-kept.ensures) (kept_different (recipes_in c.args.checked.now.definitions))

pub resolve_kept-requires-clause-once : goal.resolve_kept-requires-clause-once
resolve_kept-requires-clause-once g c = subst (λ (rs : List (Recipe UnresolvedDependency)). IsOnce (unresolved_numbers rs)) (sym c.in_ok-kept.ensures) (kept_once (recipes_in c.args.checked.now.definitions) c.requires.once)

pub resolve_kept-requires-clause-priors : goal.resolve_kept-requires-clause-priors
resolve_kept-requires-clause-priors g c = subst (λ (rs : List (Recipe UnresolvedDependency)). All HasPriors rs) (sym c.in_ok-kept.ensures) (kept_all HasPriors (recipes_in c.args.checked.now.definitions) c.requires.priors)

pub resolve_kept-requires-clause-apart : goal.resolve_kept-requires-clause-apart
resolve_kept-requires-clause-apart g c = subst (λ (rs : List (Recipe UnresolvedDependency)). AreNew c.args.recipes rs) (sym c.in_ok-kept.ensures)
    (λ n a b. let qs = recipes_in c.args.checked.now.definitions in c.requires.apart n a (contained n (unresolved_numbers qs) (kept_number qs n (is_in n (unresolved_numbers (kept_recipes qs)) b))))

pub resolve_kept-requires-clause-covered : goal.resolve_kept-requires-clause-covered
resolve_kept-requires-clause-covered g c = λ i h.
    let checked = c.args.checked.now in
    let qs = recipes_in checked.definitions in
    covers_kept checked.variables (scope_values checked.constants.scope) (contents_in checked.definitions) c.requires.covered (recipes_in c.in_ok-kept.kept) c.in_ok-kept.ensures i h

pub returns-in_err-check_bodies-clause-named : goal.returns-in_err-check_bodies-clause-named
returns-in_err-check_bodies-clause-named g c =
    IfErr-weaker c.from_residual.result (Reports (BreaksBodies (g.S.Syntax.answers c.args.given.now.syntax.now) c.args.checked.now.constants.settings (contents_in c.args.checked.now.definitions))) _
    (λ e h. reports_by (BreaksBodies _ _ _) (BreaksRecipes _ _ _ _ _) (λ x k. in_bodies k) e h) (search rules)

pub returns-clause-kept : goal.returns-clause-kept
returns-clause-kept g c =
    let checked = c.args.checked.now in
    let lists = checked.constants.settings.lists in
    let lent = around_recipes c.args.around.now.notes.absent_modules c.as_slice.result.now c.args.recipes in
    let same : lent ≡ around_by c.args.around.now c.args.recipes = ap (λ ms. around_recipes c.args.around.now.notes.absent_modules ms c.args.recipes) c.as_slice.ensures in
    subst₂ (λ rs x. IfOk c.resolve_kept.result (λ _. Keeps (BreaksLinks lists rs x))) c.in_ok-kept.ensures same c.resolve_kept.ensures.kept

pub returns-clause-own : goal.returns-clause-own
returns-clause-own g c =
    let checked = c.args.checked.now in
    let answers = g.S.Syntax.answers c.args.given.now.syntax.now in
    let evaluator = g.E.ConstantEvaluation.answers c.args.given.now.evaluation.now in
    let values = scope_values checked.constants.scope in
    let m = contents_in checked.definitions in
    let settings = checked.constants.settings in
    let here = rule_here answers evaluator m checked.variables c.requires.variables values settings in
    let said = rule_said answers evaluator m checked.variables c.requires.variables values settings in
    let lent = around_recipes c.args.around.now.notes.absent_modules c.as_slice.result.now c.args.recipes in
    let it = around_by c.args.around.now c.args.recipes in
    let same : lent ≡ it = ap (λ ms. around_recipes c.args.around.now.notes.absent_modules ms c.args.recipes) c.as_slice.ensures in
    let own : IfOk c.resolve_kept.result (λ _. Keeps (InStanding (Stands (kept_recipes (recipes_in checked.definitions)) it) here (kept_recipes (recipes_in checked.definitions)))) =
    subst₂ (λ rs x. IfOk c.resolve_kept.result (λ _. Keeps (InStanding (Stands rs x) here rs))) c.in_ok-kept.ensures same c.resolve_kept.ensures.own in
    IfOk-weaker c.resolve_kept.result _ _ (λ made kept e b. kept e (standing_so said here (rule_back answers evaluator m checked.variables c.requires.variables values settings) e b)) own

pub returns-clause-named : goal.returns-clause-named
returns-clause-named g c =
    let checked = c.args.checked.now in
    let layers = layers_at (given_by g.S.Syntax.answers g.E.ConstantEvaluation.answers c.args.given.now) c.args.path.now in
    let values = scope_values checked.constants.scope in
    let m = contents_in checked.definitions in
    let settings = checked.constants.settings in
    let here = rule_here layers.syntax layers.evaluator m checked.variables c.requires.variables values settings in
    let value = value_here layers.syntax layers.evaluator m checked.variables c.requires.variables values settings in
    let recipes = kept_recipes (recipes_in checked.definitions) in
    let it = around_by c.args.around.now c.args.recipes in
    let absent = c.args.around.now.notes.absent_modules in
    let lent = around_recipes absent c.as_slice.result.now c.args.recipes in
    let same : lent ≡ it = ap (λ ms. around_recipes absent ms c.args.recipes) c.as_slice.ensures in
    let tells : Recipe UnresolvedDependency → Cause → Type 0 = λ r x. here r x ⊎ IsPastLimits value r x in
    let told : IfErr c.resolve_kept.result (Reports (TellsLinks settings.lists tells recipes it)) =
    subst₂ (λ rs x. IfErr c.resolve_kept.result (Reports (TellsLinks settings.lists tells rs x))) c.in_ok-kept.ensures same c.resolve_kept.ensures.named in
    IfErr-weaker c.resolve_kept.result (Reports (TellsLinks settings.lists tells recipes it)) _
    (λ e h. reports_by (TellsLinks settings.lists tells recipes it) (TellsChecked layers checked it)
    (links_told layers checked it c.requires.variables c.in_ok-check_bodies.ensures.kept) e h) told

pub returns-clause-linked : goal.returns-clause-linked
returns-clause-linked g c =
    let checked = c.args.checked.now in
    let answers = g.S.Syntax.answers c.args.given.now.syntax.now in
    let evaluator = g.E.ConstantEvaluation.answers c.args.given.now.evaluation.now in
    let values = scope_values checked.constants.scope in
    let m = contents_in checked.definitions in
    let settings = checked.constants.settings in
    let rs = kept_recipes (recipes_in checked.definitions) in
    let lent = around_recipes c.args.around.now.notes.absent_modules c.as_slice.result.now c.args.recipes in
    let same : lent ≡ around_by c.args.around.now c.args.recipes = ap (λ ms. around_recipes c.args.around.now.notes.absent_modules ms c.args.recipes) c.as_slice.ensures in
    let numbers = told_numbers checked.variables.numbers checked.variables.assignments c.requires.numbers in
    let value = value_same answers evaluator m checked.variables c.requires.variables values settings in
    let needs = (completion_here answers evaluator checked).Needs in
    let by : Recipe UnresolvedDependency → Recipe UnresolvedDependency = λ r. with_values (value_here answers evaluator m checked.variables c.requires.variables values settings) (numbered_recipe (get bytes_eq checked.variables.numbers) answers settings r) in
    let by_same : by ≡ (completion_here answers evaluator checked).by = λ i r. with_values (value i) (numbered_recipe (numbers i) answers settings r) in
    links_as needs by (completion_here answers evaluator checked).by by_same settings.lists (recipes_in c.in_ok-kept.kept) rs c.in_ok-kept.ensures lent (around_by c.args.around.now c.args.recipes) same c.args.path.now c.resolve_kept.result
    c.resolve_kept.ensures.standing c.resolve_kept.ensures.disabled c.resolve_kept.ensures.linked

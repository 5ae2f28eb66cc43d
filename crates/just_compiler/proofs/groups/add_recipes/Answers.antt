use Rattle.std.proofs.Common.{◌≡◌, ◌∙◌, Some, ap, refl, subst, rules}
use Rattle.std.proofs.lemmas.Result.{IfErr-weaker}
use Rattle.just_errors.specs.Causes.{Keeps, Reports}
use Rattle.just_errors.proofs.Lifts.{reports_by}
use Rattle.just_compiler.specs.loops.Parts.{around_by, completion_here}
use Rattle.just_compiler.proofs.OwnNumbers.{all_recipes_kept, default_standing}
use Rattle.just_compiled.proofs.AliasTargets.{targets_known, unknown_on}
use Rattle.just_compiled.specs.Analysis.{recipe_table}
use Rattle.just_module_contents.specs.Defaults.{BreaksDefaults}
use Rattle.just_module_contents.specs.Definitions.{aliases_in, contents_in, recipes_in}
use Rattle.just_module_contents.specs.Kept.{kept_recipes}
use Rattle.just_module_contents.specs.Named.{recipes_by}
use Rattle.just_module_variables.specs.Constants.{evaluated_in}
use Rattle.just_parts.specs.Layers.{given_by, layers_at}
use Rattle.just_module_aliases.specs.Aliased.{Targets, UnknownTargets, aliases_of, alias_targets}
use Rattle.just_module_recipes.specs.loops.Broken.{BreaksRecipes, in_aliases}
use Rattle.just_module_recipes.specs.Links.{of_defaults, of_targets}
use Rattle.just_compiler.proofs.groups.add_recipes.Goals as goal

pub returns-in_err-linked-clause-named : goal.returns-in_err-linked-clause-named
returns-in_err-linked-clause-named g c = search (rules, c.in_err-linked.ensures.named, c.from_residual.ensures.1, c.from_residual.ensures.0)

pub returns-in_err-default-clause-named : goal.returns-in_err-default-clause-named
returns-in_err-default-clause-named g c =
    let own = c.in_ok-linked.ensures.own in
    let standing = recipes_in c.in_ok-linked.linked.standing in
    let named : Reports (BreaksDefaults standing) c.in_err-default.field-0.0 = c.in_err-default.ensures.named in
    IfErr-weaker c.from_residual-in_err-default.result (Reports (BreaksDefaults standing)) _
    (λ e h. reports_by (BreaksDefaults standing) (BreaksRecipes _ _ _ _ _)
    (λ x k. in_aliases c.in_ok-linked.ensures.bodies c.in_ok-linked.ensures.kept own (of_defaults standing c.in_ok-linked.ensures.linked.stand k)) e h)
    (search (rules, named, c.from_residual-in_err-default.ensures.1, c.from_residual-in_err-default.ensures.0))

pub returns-in_err-aliases-clause-named : goal.returns-in_err-aliases-clause-named
returns-in_err-aliases-clause-named g c =
    let own = c.in_ok-linked.ensures.own in
    let kept = kept_recipes (recipes_in c.args.checked.now.definitions) in
    let standing = recipes_in c.in_ok-linked.linked.standing in
    let it = around_by c.args.around.now c.args.recipes in
    let disabled = c.in_ok-linked.linked.disabled in
    let known = aliases_in c.args.checked.now.definitions in
    let t = alias_targets it.absent disabled it.modules (recipe_table standing) in
    let same : alias_targets it.absent disabled c.as_slice.result.now c.in_ok-keys.keys ≡ t = (λ i. alias_targets it.absent disabled (c.as_slice.ensures i) (c.in_ok-keys.ensures i)) in
    let named : Reports (UnknownTargets t known) c.in_err-aliases.field-0.0 = subst (λ (x : Targets). Reports (UnknownTargets x known) c.in_err-aliases.field-0.0) same c.in_err-aliases.ensures.named in
    IfErr-weaker c.from_residual-in_err-aliases.result (Reports (UnknownTargets t known)) _
    (λ e h. reports_by (UnknownTargets t known) (BreaksRecipes _ _ _ _ _)
    (λ x k. in_aliases c.in_ok-linked.ensures.bodies c.in_ok-linked.ensures.kept own (of_targets (unknown_on kept standing it disabled c.in_ok-linked.ensures.linked.stand c.in_ok-linked.ensures.linked.disabled_are known x k))) e h)
    (search (rules, named, c.from_residual-in_err-aliases.ensures.1, c.from_residual-in_err-aliases.ensures.0))

pub returns-clause-kept : goal.returns-clause-kept
returns-clause-kept g c =
    let kept = kept_recipes (recipes_in c.args.checked.now.definitions) in
    let standing = recipes_in c.in_ok-linked.linked.standing in
    let it = around_by c.args.around.now c.args.recipes in
    let disabled = c.in_ok-linked.linked.disabled in
    let known = aliases_in c.args.checked.now.definitions in
    let same : alias_targets it.absent disabled c.as_slice.result.now c.in_ok-keys.keys ≡ alias_targets it.absent disabled it.modules (recipe_table standing) = (λ i. alias_targets it.absent disabled (c.as_slice.ensures i) (c.in_ok-keys.ensures i)) in
    let layers = layers_at (given_by g.S.Syntax.answers g.E.ConstantEvaluation.answers c.args.given.now) c.args.ast.now.module_path in
    all_recipes_kept layers (evaluated_in c.args.checked.now.constants) (contents_in c.args.checked.now.definitions) standing it
    c.in_ok-linked.ensures.bodies c.in_ok-linked.ensures.kept c.in_ok-linked.ensures.linked.stand c.in_ok-linked.ensures.own c.in_ok-default.ensures.kept
    (targets_known kept standing it disabled c.in_ok-linked.ensures.linked.stand c.in_ok-linked.ensures.linked.disabled_are known
    (subst (λ (x : Targets). Keeps (UnknownTargets x known)) same c.in_ok-aliases.ensures.kept))

pub returns-clause-aliases : goal.returns-clause-aliases
returns-clause-aliases g c =
    c.in_ok-aliases.ensures.aliases ∙ ap (λ ms. aliases_of (alias_targets c.args.around.now.notes.absent_modules c.in_ok-linked.linked.disabled ms c.in_ok-keys.keys) (aliases_in c.args.checked.now.definitions)) c.as_slice.ensures

pub returns-clause-default : goal.returns-clause-default
returns-clause-default g c =
    default_standing (completion_here (g.S.Syntax.answers c.args.given.now.syntax.now) (g.E.ConstantEvaluation.answers c.args.given.now.evaluation.now) c.args.checked.now) (λ r. refl) c.args.checked.now.constants.settings.lists (kept_recipes (recipes_in c.args.checked.now.definitions)) (recipes_in c.in_ok-linked.linked.standing) (around_by c.args.around.now c.args.recipes) c.args.ast.now.module_path c.in_ok-linked.linked.all
    (recipes_by (g.S.Syntax.answers c.args.given.now.syntax.now).enabled (Some c.args.ast.now)) c.in_ok-default.default c.in_ok-linked.ensures.linked.stand c.in_ok-linked.ensures.linked.linked c.requires.own c.in_ok-default.ensures.default

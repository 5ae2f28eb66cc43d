use Rattle.std.proofs.Common.{◌≡◌, ◌∙◌, List, false, subst, sym, rules}
use Rattle.std.proofs.lemmas.Result.{IfErr-weaker, on_ok_weaker}
use Rattle.just_errors.specs.Causes.{Keeps, Reports}
use Rattle.just_errors.proofs.Lifts.{reports_by}
use Rattle.just_ast_definitions.specs.declared.line.Line.{Line}
use Rattle.just_recipe.specs.Script.{is_script}
use Rattle.just_module_contents.specs.Shells.{BreaksLines, ScriptAttribute, BreaksShellRecipe, of_attributes, of_lines}
use Rattle.just_module_bodies.proofs.Grouping.{script_kept, shell_kept}
use Rattle.just_module_bodies.proofs.shells.check_shell.Goals as goal

pub returns-then-is_script-clause-kept : goal.returns-then-is_script-clause-kept
returns-then-is_script-clause-kept g c = script_kept (g.S.Syntax.answers c.args.syntax.now) c.args.settings.now c.args.recipe.now (sym c.is_script.ensures ∙ c.if-is_script.true)

pub returns-in_err-check_lines-clause-named : goal.returns-in_err-check_lines-clause-named
returns-in_err-check_lines-clause-named g c =
    let answers = g.S.Syntax.answers c.args.syntax.now in
    let settings = c.args.settings.now in
    let isnt : is_script c.args.recipe.now settings ≡ false = sym c.is_script.ensures ∙ c.if-is_script.false in
    IfErr-weaker c.from_residual.result (Reports (BreaksLines answers settings c.as_slice.result.now)) _
    (λ e h. reports_by (BreaksLines answers settings c.as_slice.result.now) (BreaksShellRecipe answers settings c.args.recipe.now)
    (λ x k. of_lines isnt (subst (λ (ls : List Line). BreaksLines answers settings ls x) c.as_slice.ensures k)) e h) (search rules)

pub returns-clause-kept : goal.returns-clause-kept
returns-clause-kept g c =
    let answers = g.S.Syntax.answers c.args.syntax.now in
    let settings = c.args.settings.now in
    on_ok_weaker c.check_attributes.result (λ attributes. shell_kept answers settings c.args.recipe.now
    (subst (λ (ls : List Line). Keeps (BreaksLines answers settings ls)) c.as_slice.ensures c.in_ok-check_lines.ensures.kept) attributes) c.check_attributes.ensures.kept

pub returns-clause-named : goal.returns-clause-named
returns-clause-named g c =
    let isnt : is_script c.args.recipe.now c.args.settings.now ≡ false = sym c.is_script.ensures ∙ c.if-is_script.false in
    IfErr-weaker c.check_attributes.result (Reports (ScriptAttribute c.args.recipe.now)) _
    (λ e h. reports_by (ScriptAttribute c.args.recipe.now) (BreaksShellRecipe _ _ _) (λ x k. of_attributes isnt k) e h) c.check_attributes.ensures.named

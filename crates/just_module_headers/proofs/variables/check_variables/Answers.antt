use Rattle.std.proofs.Common.{◌≡◌, ◌∙◌, List, false, rules, subst, sym}
use Rattle.std.proofs.lemmas.Result.{IfErr-weaker, on_ok_weaker}
use Rattle.just_errors.specs.Causes.{Reports}
use Rattle.just_errors.proofs.Lifts.{reports_by}
use Rattle.just_names.specs.declared.name.Name.{Name}
use Rattle.just_module_contents.specs.Contents.{variable_names}
use Rattle.just_names.specs.Index.{texts_of_names, AreDifferent}
use Rattle.just_names.specs.loops.Index.{AreApart}
use Rattle.just_module_contents.specs.Definitions.{sets_in, variables_in}
use Rattle.just_module_contents.specs.Rules.{AssignedTwice, Unexported, BreaksVariables, assigned_twice, unexported}
use Rattle.just_module_contents.specs.Settings.{allows_variables}
use Rattle.just_module_contents.proofs.Defining.{variables_kept}
use Rattle.just_module_headers.proofs.variables.check_variables.Goals.{then-not-allows_variables+in_ok-check_once, else-not-allows_variables}
use Rattle.just_module_headers.proofs.variables.check_variables.Goals as goal

pub returns-in_err-check_once-clause-named : goal.returns-in_err-check_once-clause-named
returns-in_err-check_once-clause-named c =
    IfErr-weaker c.from_residual-in_err-check_once.result (Reports (AssignedTwice c.as_slice.result.now)) _
    (λ e h. reports_by (AssignedTwice c.as_slice.result.now) (BreaksVariables _ _ _)
    (λ x k. assigned_twice (sym c.allows_variables.ensures ∙ c.if-not-allows_variables.true) (subst (λ (ns : List Name). AssignedTwice ns x) (c.as_slice.ensures.value ∙ c.in_ok-names.ensures) k)) e h) (search rules)

pub returns-clause-kept : goal.returns-clause-kept
returns-clause-kept c =
    let names = variable_names (variables_in c.args.definitions.now) in
    let allowed = allows_variables (sets_in c.args.definitions.now) in
    let different : allowed ≡ false → AreDifferent (texts_of_names names) = elim c.if-not-allows_variables.branch [
      | then-not-allows_variables+in_ok-check_once w ↦ λ off. subst (λ (ns : List Name). AreDifferent (texts_of_names ns)) (w.as_slice.ensures.value ∙ c.in_ok-names.ensures) w.in_ok-check_once.ensures.kept
      | else-not-allows_variables w ↦ λ off. (let on = w.if-not-allows_variables.false in let same = c.allows_variables.ensures in cc)
    ] in
    on_ok_weaker c.check_unexported.result (λ apart. variables_kept allowed names c.args.definitions.now.unexports.items different
    (subst (λ (ns : List Name). AreApart (texts_of_names ns) (texts_of_names c.args.definitions.now.unexports.items)) (c.as_slice-2.ensures.value ∙ c.in_ok-names.ensures)
    (subst (λ (us : List Name). AreApart (texts_of_names c.as_slice-2.result.now) (texts_of_names us)) c.as_slice-3.ensures.value apart))) c.check_unexported.ensures.kept

pub returns-clause-named : goal.returns-clause-named
returns-clause-named c =
    let names = c.as_slice-2.result.now in
    let unexports = c.as_slice-3.result.now in
    IfErr-weaker c.check_unexported.result (Reports (Unexported names unexports)) _
    (λ e h. reports_by (Unexported names unexports) (BreaksVariables _ _ _)
    (λ x k. unexported (subst (λ (ns : List Name). Unexported ns c.args.definitions.now.unexports.items x) (c.as_slice-2.ensures.value ∙ c.in_ok-names.ensures) (subst (λ (us : List Name). Unexported names us x) c.as_slice-3.ensures.value k))) e h)
    c.check_unexported.ensures.named

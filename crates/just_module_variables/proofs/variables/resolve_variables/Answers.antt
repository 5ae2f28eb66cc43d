use Rattle.std.proofs.Common.{◌≡◌, ◌∙◌, [], ap, rules, subst, sym}
use Rattle.std.proofs.lemmas.Result.{IfErr-weaker}
use Rattle.just_errors.specs.Causes.{Keeps, Reports}
use Rattle.just_errors.proofs.Lifts.{reports_by}
use Rattle.just_names.specs.Name.{text_of_name}
use Rattle.just_ast_definitions.specs.declared.assignment.Assignment.{Assignment}
use Rattle.just_table.specs.Entries.{put_all}
use Rattle.just_parts.specs.Known.{Known, known}
use Rattle.just_parts.specs.Misnaming.{Expressions}
use Rattle.just_module_contents.specs.Definitions.{contents_in, variables_in}
use Rattle.just_module_contents.specs.Known.{known_of, variables_under}
use Rattle.just_module_variables.specs.Variables.{AreVariables, known_with_numbers}
use Rattle.just_module_variables.proofs.Judging.{breaks_known, keeps_known}
use Rattle.just_module_variables.proofs.Tabled.{are_numbers, are_variables}
use Rattle.just_module_variables.proofs.variables.resolve_variables.Goals as goal

pub returns-in_err-resolved-clause-named : goal.returns-in_err-resolved-clause-named
returns-in_err-resolved-clause-named g c =
    let answers = g.S.Syntax.answers c.args.syntax.now in
    let m = contents_in c.args.definitions.now in
    let variables : c.in_ok-assignments.assignments ≡ variables_under (variables_in c.args.definitions.now) = c.in_ok-assignments.ensures ∙ ap (put_all (λ (a : Assignment). text_of_name a.name) []) c.in_ok-kept.ensures in
    let same : known answers c.in_ok-assignments.assignments c.in_ok-functions.functions ≡ known_with_numbers answers m = λ i. known answers (variables i) (c.in_ok-functions.ensures i) in
    IfErr-weaker c.from_residual-in_err-resolved.result (Reports (Expressions (known answers c.in_ok-assignments.assignments c.in_ok-functions.functions))) _
    (λ e h. reports_by (Expressions (known answers c.in_ok-assignments.assignments c.in_ok-functions.functions)) (Expressions (known_of answers m)) (λ x b. breaks_known answers m x (subst (λ (k : Known). Expressions k x) same b)) e h) (search rules)

pub returns-clause-kept : goal.returns-clause-kept
returns-clause-kept g c =
    let answers = g.S.Syntax.answers c.args.syntax.now in
    let m = contents_in c.args.definitions.now in
    let variables : c.in_ok-assignments.assignments ≡ variables_under (variables_in c.args.definitions.now) = c.in_ok-assignments.ensures ∙ ap (put_all (λ (a : Assignment). text_of_name a.name) []) c.in_ok-kept.ensures in
    let same : known answers c.in_ok-assignments.assignments c.in_ok-functions.functions ≡ known_with_numbers answers m = λ i. known answers (variables i) (c.in_ok-functions.ensures i) in
    keeps_known answers m (subst (λ (k : Known). Keeps (Expressions k)) same c.in_ok-resolved.ensures.kept)

pub returns-clause-variables : goal.returns-clause-variables
returns-clause-variables g c =
    let answers = g.S.Syntax.answers c.args.syntax.now in
    let m = contents_in c.args.definitions.now in
    let variables : c.in_ok-assignments.assignments ≡ variables_under (variables_in c.args.definitions.now) = c.in_ok-assignments.ensures ∙ ap (put_all (λ (a : Assignment). text_of_name a.name) []) c.in_ok-kept.ensures in
    subst (AreVariables answers m c.resolve_assignments.new.assignments c.resolve_assignments.new.functions) (sym c.from_vec.ensures)
    (are_variables answers m c.in_ok-assignments.assignments c.in_ok-functions.functions variables c.in_ok-functions.ensures c.in_ok-resolved.resolved
    c.resolve_assignments.new.assignments c.resolve_assignments.new.functions c.in_ok-resolved.ensures.resolved)

pub returns-clause-numbers : goal.returns-clause-numbers
returns-clause-numbers g c =
    let answers = g.S.Syntax.answers c.args.syntax.now in
    let m = contents_in c.args.definitions.now in
    let variables : c.in_ok-assignments.assignments ≡ variables_under (variables_in c.args.definitions.now) = c.in_ok-assignments.ensures ∙ ap (put_all (λ (a : Assignment). text_of_name a.name) []) c.in_ok-kept.ensures in
    are_numbers answers m c.in_ok-assignments.assignments c.in_ok-functions.functions variables c.in_ok-functions.ensures c.in_ok-resolved.resolved
    c.resolve_assignments.new.assignments c.resolve_assignments.new.functions c.in_ok-resolved.ensures.resolved

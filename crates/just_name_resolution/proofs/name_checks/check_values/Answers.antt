use Rattle.std.proofs.Common.{subst, Bool}
use Rattle.std.specs.HashSet.{contains}
use Rattle.std.specs.Str.{bytes_eq}
use Rattle.std.specs.Map.{values_of}
use Rattle.std.proofs.lemmas.Result.{IfErr-weaker, IfOk-from_err, err_from_is_err_and}
use Rattle.just_errors.specs.Causes.{Keeps, Reports}
use Rattle.just_errors.proofs.Lifts.{reports_by}
use Rattle.just_names.specs.Texts.{Text}
use Rattle.just_ast_definitions.specs.declared.assignment.Assignment.{Assignment}
use Rattle.just_parts.specs.Known.{none_hidden}
use Rattle.just_name_resolution.specs.Lent.{known_in}
use Rattle.just_parts.specs.Misnaming.{Expressions, Misnames, in_value}
use Rattle.just_name_resolution.proofs.Checked.{walked_more, walked_there, walked_all, nothing_hides}
use Rattle.just_name_resolution.proofs.name_checks.check_values.Goals as goal

pub loop-assignment-preserved : goal.loop-assignment-preserved
loop-assignment-preserved g c =
    let m = known_in (g.S.Syntax.answers c.args.known.now.syntax.now) c.args.known.now in
    walked_more (λ (a : Assignment). Misnames m none_hidden a.value) (values_of c.args.known.now.assignments.now)
    c.loop-assignment.assignment-iterator c.next.new.self c.in-Some.assignment.now c.loop-assignment.invariant c.in-Some.ensures.steps
    (subst (λ (h : Text → Bool). Keeps (Misnames m h c.in-Some.assignment.now.value)) (nothing_hides c.new-hidden.result.keys c.new-hidden.ensures.empty) c.in_ok-check_expression.ensures.kept)

pub returns-in_err-check_expression-clause-named : goal.returns-in_err-check_expression-clause-named
returns-in_err-check_expression-clause-named g c =
    let m = known_in (g.S.Syntax.answers c.args.known.now.syntax.now) c.args.known.now in
    let a = c.in-Some.assignment.now in
    IfErr-weaker c.from_residual.result (Reports (Misnames m (contains bytes_eq c.new-hidden.result) a.value)) _
    (λ e h. reports_by (Misnames m (contains bytes_eq c.new-hidden.result) a.value) (Expressions m) (λ x wrong. in_value (walked_there (λ (a : Assignment). Misnames m none_hidden a.value) (values_of c.args.known.now.assignments.now)
    c.loop-assignment.assignment-iterator c.next.new.self a c.loop-assignment.invariant c.in-Some.ensures.steps)
    (subst (λ (h : Text → Bool). Misnames m h a.value x) (nothing_hides c.new-hidden.result.keys c.new-hidden.ensures.empty) wrong)) e h) (let p = err_from_is_err_and c.from_residual.result c.from_residual.ensures.1 in rw (p.1, p.2) c.in_err-check_expression.ensures.named)

pub returns-clause-kept : goal.returns-clause-kept
returns-clause-kept g c =
    walked_all (λ (a : Assignment). Misnames (known_in (g.S.Syntax.answers c.args.known.now.syntax.now) c.args.known.now) none_hidden a.value) (values_of c.args.known.now.assignments.now)
    c.loop-assignment.assignment-iterator c.loop-assignment.invariant c.in-None.ensures.steps.0

pub returns-in_err-check_expression-clause-kept : goal.returns-in_err-check_expression-clause-kept
returns-in_err-check_expression-clause-kept g c = IfOk-from_err c.from_residual.result _ c.from_residual.ensures.0

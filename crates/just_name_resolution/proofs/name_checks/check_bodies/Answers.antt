use Rattle.std.proofs.Common.{rules}
use Rattle.std.specs.Map.{values_of}
use Rattle.std.proofs.lemmas.Result.{IfErr-weaker}
use Rattle.just_errors.specs.Causes.{Reports}
use Rattle.just_errors.proofs.Lifts.{reports_by}
use Rattle.just_ast_definitions.specs.declared.function_definition.FunctionDefinition.{FunctionDefinition}
use Rattle.just_parts.specs.Known.{hides}
use Rattle.just_name_resolution.specs.Lent.{known_in}
use Rattle.just_parts.specs.Misnaming.{Expressions, Misnames, in_body}
use Rattle.just_name_resolution.proofs.Checked.{walked_more, walked_there, walked_all}
use Rattle.just_name_resolution.proofs.name_checks.check_bodies.Goals as goal

pub loop-function-preserved : goal.loop-function-preserved
loop-function-preserved g c =
    walked_more (λ (f : FunctionDefinition). Misnames (known_in (g.S.Syntax.answers c.args.known.now.syntax.now) c.args.known.now) (hides f.parameters) f.body) (values_of c.args.known.now.functions.now)
    c.loop-function.function-iterator c.next.new.self c.in-Some.function.now c.loop-function.invariant c.in-Some.ensures.steps c.in_ok-check_body.ensures.kept

pub returns-in_err-check_body-clause-named : goal.returns-in_err-check_body-clause-named
returns-in_err-check_body-clause-named g c =
    let m = known_in (g.S.Syntax.answers c.args.known.now.syntax.now) c.args.known.now in
    let f = c.in-Some.function.now in
    IfErr-weaker c.from_residual.result (Reports (Misnames m (hides f.parameters) f.body)) _
    (λ e h. reports_by (Misnames m (hides f.parameters) f.body) (Expressions m) (λ x wrong. in_body (walked_there (λ (f : FunctionDefinition). Misnames m (hides f.parameters) f.body) (values_of c.args.known.now.functions.now)
    c.loop-function.function-iterator c.next.new.self f c.loop-function.invariant c.in-Some.ensures.steps) wrong) e h) (search rules)

pub returns-clause-kept : goal.returns-clause-kept
returns-clause-kept g c =
    walked_all (λ (f : FunctionDefinition). Misnames (known_in (g.S.Syntax.answers c.args.known.now.syntax.now) c.args.known.now) (hides f.parameters) f.body) (values_of c.args.known.now.functions.now)
    c.loop-function.function-iterator c.loop-function.invariant c.in-None.ensures.steps.0

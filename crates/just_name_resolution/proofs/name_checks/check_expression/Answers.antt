use Rattle.std.proofs.Common.{rules}
use Rattle.std.specs.HashSet.{contains}
use Rattle.std.specs.Str.{bytes_eq}
use Rattle.std.proofs.lemmas.Result.{IfErr-weaker}
use Rattle.just_errors.specs.Causes.{Reports}
use Rattle.just_errors.proofs.Lifts.{reports_by}
use Rattle.just_ast_references.specs.References.{references}
use Rattle.just_name_resolution.specs.Lent.{known_in}
use Rattle.just_parts.specs.Misnaming.{Misnames, MisnamesAt}
use Rattle.just_name_resolution.proofs.Checked.{walked_more, walked_there}
use Rattle.just_name_resolution.proofs.name_checks.check_expression.Goals as goal

pub loop-reference-preserved : goal.loop-reference-preserved
loop-reference-preserved g c =
    walked_more (MisnamesAt (known_in (g.S.Syntax.answers c.args.known.now.syntax.now) c.args.known.now) (contains bytes_eq c.args.hidden.now)) (references c.args.expression.now)
    c.loop-reference.reference-iterator c.next.new.self c.in-Some.reference c.loop-reference.invariant c.in-Some.ensures.steps c.in_ok-check_reference.ensures.kept

pub returns-in_err-check_reference-clause-named : goal.returns-in_err-check_reference-clause-named
returns-in_err-check_reference-clause-named g c =
    let m = known_in (g.S.Syntax.answers c.args.known.now.syntax.now) c.args.known.now in
    let hidden = contains bytes_eq c.args.hidden.now in
    let reference = c.in-Some.reference in
    IfErr-weaker c.from_residual-in_err-check_reference.result (Reports (MisnamesAt m hidden reference)) _
    (λ e h. reports_by (MisnamesAt m hidden reference) (Misnames m hidden c.args.expression.now) (λ x wrong. record {
      at = reference;
      there = walked_there (MisnamesAt m hidden) (references c.args.expression.now) c.loop-reference.reference-iterator c.next.new.self reference c.loop-reference.invariant c.in-Some.ensures.steps;
      wrong = wrong;
    }) e h) (search rules)

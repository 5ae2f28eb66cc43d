use Rattle.std.proofs.Common.{sym, subst, OnOk, IfErr}
use Rattle.std.specs.HashSet.{contains}
use Rattle.std.specs.Str.{bytes_eq}
use Rattle.std.proofs.lemmas.Result.{IfErr-weaker, on_ok_weaker}
use Rattle.just_errors.specs.Causes.{Keeps, Reports}
use Rattle.just_errors.proofs.Lifts.{reports_by}
use Rattle.just_ast_references.specs.declared.references.Reference.{Reference}
use Rattle.just_ast_references.specs.declared.references.Reference.TheVariants as reference
use Rattle.just_name_resolution.specs.Lent.{known_in}
use Rattle.just_parts.specs.Misnaming.{MisnamesAt, MisnamesCall}
use Rattle.just_name_resolution.proofs.Checked.{call_told, call_under}
use Rattle.just_name_resolution.proofs.name_checks.check_reference.Goals as goal

pub returns-in-Call-clause-kept : goal.returns-in-Call-clause-kept
returns-in-Call-clause-kept g c =
    let m = known_in (g.S.Syntax.answers c.args.known.now.syntax.now) c.args.known.now in
    let hidden = contains bytes_eq c.args.hidden.now in
    let call = reference.Call c.in-Call.name c.in-Call.arguments in
    subst (λ (r : Reference). OnOk c.check_call.result (Keeps (MisnamesAt m hidden r))) (sym c.in-Call.is)
    (on_ok_weaker {P = Keeps (MisnamesCall m c.in-Call.name c.in-Call.arguments)} {Q = Keeps (MisnamesAt m hidden call)} c.check_call.result (λ kept x b. kept x (call_told b)) c.check_call.ensures.kept)

pub returns-in-Call-clause-named : goal.returns-in-Call-clause-named
returns-in-Call-clause-named g c =
    let m = known_in (g.S.Syntax.answers c.args.known.now.syntax.now) c.args.known.now in
    let hidden = contains bytes_eq c.args.hidden.now in
    let call = reference.Call c.in-Call.name c.in-Call.arguments in
    subst (λ (r : Reference). IfErr c.check_call.result (Reports (MisnamesAt m hidden r))) (sym c.in-Call.is)
    (IfErr-weaker c.check_call.result (Reports (MisnamesCall m c.in-Call.name c.in-Call.arguments)) (Reports (MisnamesAt m hidden call))
    (λ e h. reports_by (MisnamesCall m c.in-Call.name c.in-Call.arguments) (MisnamesAt m hidden call) (λ x b. call_under hidden b) e h) c.check_call.ensures.named)

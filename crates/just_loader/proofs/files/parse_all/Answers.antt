use Rattle.std.proofs.Common.{◌≡◌, IfErr, rules, subst, sym}
use Rattle.just_errors.specs.declared.error.Error.{Error}
use Rattle.just_loader.specs.loops.Loading.{IsScanBy, Stops}
use Rattle.just_loader.specs.Reached.{World}
use Rattle.just_loader.proofs.Parsings.{err_by, stops_unless}
use Rattle.just_loader.proofs.ReadTexts.{none_read}
use Rattle.just_loader.proofs.files.parse_all.Goals as goal

pub returns-in_err-asts-clause-stopped : goal.returns-in_err-asts-clause-stopped
returns-in_err-asts-clause-stopped g c =
    let e : Error = c.in_err-asts.field-0.0 in
    let same : IfErr c.from_residual-in_err-asts.result (λ (x : Error). x ≡ e) = search rules in
    err_by (λ (x : Error). x ≡ e) (λ (x : Error). (w : World) → IsScanBy w c.args.scan.now (g.S.Syntax.answers c.args.syntax.now) → Stops w c.args.scan.now c.args.nodes.now 0 x)
    c.from_residual-in_err-asts.result same (λ x is w by. subst (Stops w c.args.scan.now c.args.nodes.now 0) (sym is) (stops_unless c.read_all-read.result c.args.scan.now (g.S.Syntax.answers c.args.syntax.now) c.args.nodes.now c.args.texts.numerator e c.in_err-asts.ensures.error.0 c.in_err-asts.ensures.error.1 c.read_all-read.ensures.stopped w by))

pub read_all-requires-clause-read : goal.read_all-requires-clause-read
read_all-requires-clause-read g c = none_read (g.S.Syntax.answers c.args.syntax.now) c.args.scan.now.files.items c.new-none.result c.new-none.ensures.none c.new-none.ensures.given

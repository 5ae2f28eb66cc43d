use Rattle.std.proofs.Common.{◌≡◌, ◌<◌, ◌∙◌, Some, length, refl, sym, arith, rules}
use Rattle.std.specs.List.{slice_get}
use Rattle.std.proofs.lemmas.Option.{slice_get_read, slice_get_within}
use Rattle.std.proofs.lemmas.Result.{IfErr-weaker}
use Rattle.just_errors.specs.Causes.{Reports}
use Rattle.just_errors.proofs.Lifts.{reports_by}
use Rattle.just_parts.specs.Groups.{first}
use Rattle.just_module_contents.specs.Shells.{BreaksFirstLine, BreaksLines, of_line}
use Rattle.just_module_bodies.proofs.Grouping.{begins_next, firsts_more, goes_on, lines_kept}
use Rattle.just_module_bodies.proofs.shells.check_lines.Goals.{then-begins+in_ok-check_first_line, else-begins}
use Rattle.just_module_bodies.proofs.shells.check_lines.Goals as goal

pub loop-place-init : goal.loop-place-init
loop-place-init g c = (λ _. first, λ e. cc, λ k line h begins at. absurd (omega (arith, h)))

pub loop-place-preserved : goal.loop-place-preserved
loop-place-preserved g c =
    let answers = g.S.Syntax.answers c.args.syntax.now in
    let settings = c.args.settings.now in
    let lines = c.args.lines.now in
    let line = c.index-lines-place.result in
    let place = c.loop-place.place in
    let begins = c.loop-place.begins in
    let invariant = c.loop-place.invariant in
    let inside : place < length lines = omega arith in
    let at : slice_get lines place ≡ Some line = slice_get_read lines (length lines) place line refl inside c.index-lines-place.is in (
      λ e. begins_next answers settings lines place line at begins invariant.0 (sym c.ends-begins.ensures ∙ e),
      λ e. goes_on answers settings lines place line at begins invariant.1 (sym c.ends-begins.ensures ∙ e),
      firsts_more answers settings lines place line at (elim c.if-begins.branch [
        | then-begins+in_ok-check_first_line w ↦ λ b. w.in_ok-check_first_line.ensures.kept
        | else-begins w ↦ λ b. absurd (invariant.1 w.if-begins.false b)
      ]) invariant.2,
    )

pub returns-in_err-check_first_line-clause-named : goal.returns-in_err-check_first_line-clause-named
returns-in_err-check_first_line-clause-named g c =
    let answers = g.S.Syntax.answers c.args.syntax.now in
    let settings = c.args.settings.now in
    let lines = c.args.lines.now in
    let line = c.index-lines-place.result in
    let place = c.loop-place.place in
    let inside : place < length lines = omega arith in
    let at : slice_get lines place ≡ Some line = slice_get_read lines (length lines) place line refl inside c.index-lines-place.is in
    IfErr-weaker c.from_residual.result (Reports (BreaksFirstLine answers settings line)) _
    (λ e h. reports_by (BreaksFirstLine answers settings line) (BreaksLines answers settings lines) (λ x k. of_line place (c.loop-place.invariant.0 c.if-begins.true) at k) e h) (search rules)

pub returns-clause-kept : goal.returns-clause-kept
returns-clause-kept g c =
    let lines = c.args.lines.now in
    lines_kept (g.S.Syntax.answers c.args.syntax.now) c.args.settings.now lines c.loop-place.place (λ k line at. omega (arith, slice_get_within lines k line at)) c.loop-place.invariant.2

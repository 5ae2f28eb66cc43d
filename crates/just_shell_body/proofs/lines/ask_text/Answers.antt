use Rattle.std.proofs.Common.{◌≡◌, ◌++◌, Option, refl, sym, ap, subst, ◌∙◌, arith, string_bytes}
use Rattle.just_ast_definitions.specs.declared.line.Line.{Line}
use Rattle.just_names.specs.Texts.{Text}
use Rattle.just_parts.specs.Syntax.{SyntaxAnswers}
use Rattle.just_run_layers.specs.Host.{Answer}
use Rattle.just_run_layers.specs.Interactions.{Return, Question, both, log_of}
use Rattle.just_run_layers.proofs.InteractionLemmas.{keeps-then, keeps-self, keeps-both, took-then, took-give}
use Rattle.just_recipe_body.specs.Body.{BodyContents, body_contents_of, line_steps}
use Rattle.just_shell_body.specs.Lines.{trimmed}
use Rattle.just_shell_body.specs.loops.Lines.{TextBeginsGroup}
use Rattle.just_recipe_body.proofs.StepEnds.{took-exit, took-gone}
use Rattle.just_shell_body.proofs.TextLemmas.{begins-on, part-begins, one-line, no-lines}
use Rattle.just_shell_body.proofs.lines.ask_text.Goals as goal

pub returns-in_err-part-clause-keeps : goal.returns-in_err-part-clause-keeps
returns-in_err-part-clause-keeps g c = keeps-then _ _ _ c.loop-line.invariant.keeps c.in_err-part.ensures.keeps

pub returns-in_err-push_str-clause-keeps : goal.returns-in_err-push_str-clause-keeps
returns-in_err-push_str-clause-keeps g c = keeps-then _ _ _ c.loop-line.invariant.keeps c.in_ok-part.ensures.keeps

pub returns-in_err-part-clause-took : goal.returns-in_err-part-clause-took
returns-in_err-part-clause-took g c = λ h entries.
    let p : Question → Option Answer = both (g.E.Evaluation.promised c.loop-line.evaluation) h in
    let b : BodyContents = body_contents_of (g.S.Syntax.answers c.args.body.now.syntax.now) c.args.body.now in
    let line : Line = c.line-item.result in
    let r = c.from_residual.result in
    c.loop-line.invariant.rest h entries _ r
    (one-line p b c.loop-line.continued (string_bytes c.loop-line.text) c.loop-line.line-index c.args.lines.now line _ _ r c.loop-line-test.true c.line-item.is
    (took-exit p (line_steps b line c.loop-line.continued) _ _ _ c.in_err-part.field-0.0 r c.from_residual.ensures.1 (c.in_err-part.ensures.took h entries)))

pub returns-in_err-push_str-clause-took : goal.returns-in_err-push_str-clause-took
returns-in_err-push_str-clause-took g c = λ h entries.
    let p : Question → Option Answer = both (g.E.Evaluation.promised c.loop-line.evaluation) h in
    let q : Question → Option Answer = both (g.E.Evaluation.promised c.ask_line.new.evaluation) h in
    let b : BodyContents = body_contents_of (g.S.Syntax.answers c.args.body.now.syntax.now) c.args.body.now in
    let line : Line = c.line-item.result in
    let r = c.from_residual-in_err-push_str.result in
    c.loop-line.invariant.rest h entries _ r
    (one-line p b c.loop-line.continued (string_bytes c.loop-line.text) c.loop-line.line-index c.args.lines.now line _ _ r c.loop-line-test.true c.line-item.is
    (took-then p q (keeps-both _ _ h h c.in_ok-part.ensures.keeps (keeps-self h)) (line_steps b line c.loop-line.continued) _ _ _ _ c.in_ok-part.part r (c.in_ok-part.ensures.took h entries)
    (took-gone q _ _ _ r c.from_residual-in_err-push_str.ensures.1 refl)))

pub loop-line-preserved : goal.loop-line-preserved
loop-line-preserved g c =
    let b : BodyContents = body_contents_of (g.S.Syntax.answers c.args.body.now.syntax.now) c.args.body.now in
    let s : SyntaxAnswers = b.syntax in
    let line : Line = c.line-item.result in
    let part : Text = c.in_ok-part.part in
    let cut : c.trimmed.result.now ≡ trimmed (s.is_continuation line) part = c.trimmed.ensures ∙ ap (λ t. trimmed t c.as_str.result.now) c.is_continuation.ensures ∙ ap (trimmed (s.is_continuation line)) c.as_str.ensures in
    let pushed : string_bytes c.push_str.new.self ≡ string_bytes c.loop-line.text ++ trimmed (s.is_continuation line) part = c.in_ok-push_str.ensures.bytes ∙ ap (λ t. string_bytes c.loop-line.text ++ t) cut in
    record {
      keeps = keeps-then _ _ _ c.loop-line.invariant.keeps c.in_ok-part.ensures.keeps;
      start = λ h. absurd (cc);
      later = λ _. subst (TextBeginsGroup s b.context.settings c.args.lines.now) (sym pushed)
          (begins-on s b.context.settings c.args.lines.now line c.loop-line.line-index c.loop-line.continued (string_bytes c.loop-line.text) (trimmed (s.is_continuation line) part) c.loop-line-test.true c.line-item.is
          c.loop-line.invariant.start c.loop-line.invariant.later
          (part-begins s b.context.settings g.E.Evaluation.sigils g.E.Evaluation.continues c.requires.same line c.loop-line.continued part c.in_ok-part.ensures.begins c.in_ok-part.ensures.ends));
      rest = λ h entries new r t.
          let p : Question → Option Answer = both (g.E.Evaluation.promised c.loop-line.evaluation) h in
          let q : Question → Option Answer = both (g.E.Evaluation.promised c.ask_line.new.evaluation) h in
          c.loop-line.invariant.rest h entries new r
          (one-line p b c.loop-line.continued (string_bytes c.loop-line.text) c.loop-line.line-index c.args.lines.now line _ new r c.loop-line-test.true c.line-item.is
          (took-then p q (keeps-both _ _ h h c.in_ok-part.ensures.keeps (keeps-self h)) (line_steps b line c.loop-line.continued) _ _ _ new part r (c.in_ok-part.ensures.took h entries)
          (rw pushed at t)));
    }

pub returns-in_err-from_string-clause-took : goal.returns-in_err-from_string-clause-took
returns-in_err-from_string-clause-took g c = λ h entries.
    let p : Question → Option Answer = both (g.E.Evaluation.promised c.loop-line.evaluation) h in
    let b : BodyContents = body_contents_of (g.S.Syntax.answers c.args.body.now.syntax.now) c.args.body.now in
    let r = c.from_residual-in_err-from_string.result in
    c.loop-line.invariant.rest h entries _ r
    (no-lines p b c.loop-line.continued (string_bytes c.loop-line.text) c.loop-line.line-index c.args.lines.now _ _ r (omega (arith, c.loop-line-test.false))
    (took-gone p (Return (string_bytes c.loop-line.text)) (log_of entries (g.E.Evaluation.requests c.loop-line.evaluation)) _ r c.from_residual-in_err-from_string.ensures.1 refl))

pub returns-clause-took : goal.returns-clause-took
returns-clause-took g c = λ h entries.
    let p : Question → Option Answer = both (g.E.Evaluation.promised c.loop-line.evaluation) h in
    let b : BodyContents = body_contents_of (g.S.Syntax.answers c.args.body.now.syntax.now) c.args.body.now in
    c.loop-line.invariant.rest h entries _ _
    (no-lines p b c.loop-line.continued (string_bytes c.loop-line.text) c.loop-line.line-index c.args.lines.now _ _ _ (omega (arith, c.loop-line-test.false))
    (rw c.in_ok-from_string.ensures (took-give p _ (string_bytes c.loop-line.text))))

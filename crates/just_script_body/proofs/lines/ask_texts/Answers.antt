use Rattle.std.proofs.Common.{◌++◌, ◌+◌, ℕ, drop, ◌∷◌, [], List, Option, Ok, arith, refl, false}
use Rattle.just_ast_definitions.specs.declared.line.Line.{Line}
use Rattle.just_names.specs.Texts.{Text}
use Rattle.just_run_layers.specs.Host.{Answer}
use Rattle.just_run_layers.specs.Interactions.{Question, Interaction, both}
use Rattle.just_run_layers.proofs.InteractionLemmas.{keeps-then, keeps-self, keeps-both, took-then, took-give}
use Rattle.just_recipe_body.specs.Body.{BodyContents, body_contents_of, line_steps}
use Rattle.just_recipe_body.proofs.StepEnds.{took-exit, took-gone}
use Rattle.just_script_body.proofs.ScriptLemmas.{behind_steps, no-line, of-line, of-texts, took-none, took-one}
use Rattle.just_script_body.proofs.lines.ask_texts.Goals as goal

abbrev next : BodyContents → List Text → List Line → ℕ → Text → Interaction (List Text)
next b done lines i text = behind_steps b (done ++ text ∷ []) (drop (i + 1) lines)

pub loop-line-init : goal.loop-line-init
loop-line-init g c = record {
  keeps = keeps-self _;
  rest = λ h entries new r t.
      let b : BodyContents = body_contents_of (g.S.Syntax.answers c.args.body.now.syntax.now) c.args.body.now in
      of-texts (both (g.E.Evaluation.promised c.args.evaluation.now) h) b c.args.lines.now _ new r (rw c.new-texts.ensures at t);
}

pub returns-in_err-text-clause-keeps : goal.returns-in_err-text-clause-keeps
returns-in_err-text-clause-keeps g c = keeps-then _ _ _ c.loop-line.invariant.keeps c.in_err-text.ensures.keeps

pub returns-in_err-push-clause-keeps : goal.returns-in_err-push-clause-keeps
returns-in_err-push-clause-keeps g c = keeps-then _ _ _ c.loop-line.invariant.keeps c.in_ok-text.ensures.keeps

pub returns-in_err-text-clause-took : goal.returns-in_err-text-clause-took
returns-in_err-text-clause-took g c = λ h entries.
    let p : Question → Option Answer = both (g.E.Evaluation.promised c.loop-line.evaluation) h in
    let b : BodyContents = body_contents_of (g.S.Syntax.answers c.args.body.now.syntax.now) c.args.body.now in
    let line : Line = c.line-item.result in
    let done : List Text = c.loop-line.texts in
    let r = c.from_residual.result in
    c.loop-line.invariant.rest h entries _ r
    (took-one p (behind_steps b done) c.args.lines.now c.loop-line.line-index line _ _ r c.loop-line-test.true c.line-item.is
    (of-line p b done line _ _ _ r
    (took-exit p (line_steps b line false) (next b done c.args.lines.now c.loop-line.line-index) _ _ c.in_err-text.field-0.0 r c.from_residual.ensures.1 (c.in_err-text.ensures.took h entries))))

pub returns-in_err-push-clause-took : goal.returns-in_err-push-clause-took
returns-in_err-push-clause-took g c = λ h entries.
    let p : Question → Option Answer = both (g.E.Evaluation.promised c.loop-line.evaluation) h in
    let q : Question → Option Answer = both (g.E.Evaluation.promised c.ask_line.new.evaluation) h in
    let b : BodyContents = body_contents_of (g.S.Syntax.answers c.args.body.now.syntax.now) c.args.body.now in
    let line : Line = c.line-item.result in
    let done : List Text = c.loop-line.texts in
    let r = c.from_residual-in_err-push.result in
    c.loop-line.invariant.rest h entries _ r
    (took-one p (behind_steps b done) c.args.lines.now c.loop-line.line-index line _ _ r c.loop-line-test.true c.line-item.is
    (of-line p b done line _ _ _ r
    (took-then p q (keeps-both _ _ h h c.in_ok-text.ensures.keeps (keeps-self h)) (line_steps b line false) (next b done c.args.lines.now c.loop-line.line-index) _ _ _ c.in_ok-text.text r (c.in_ok-text.ensures.took h entries)
    (took-gone q _ _ _ r c.from_residual-in_err-push.ensures.1 refl))))

pub loop-line-preserved : goal.loop-line-preserved
loop-line-preserved g c =
    let b : BodyContents = body_contents_of (g.S.Syntax.answers c.args.body.now.syntax.now) c.args.body.now in
    let line : Line = c.line-item.result in
    let done : List Text = c.loop-line.texts in
    record {
      keeps = keeps-then _ _ _ c.loop-line.invariant.keeps c.in_ok-text.ensures.keeps;
      rest = λ h entries new r t.
          let p : Question → Option Answer = both (g.E.Evaluation.promised c.loop-line.evaluation) h in
          let q : Question → Option Answer = both (g.E.Evaluation.promised c.ask_line.new.evaluation) h in
          c.loop-line.invariant.rest h entries new r
          (took-one p (behind_steps b done) c.args.lines.now c.loop-line.line-index line _ new r c.loop-line-test.true c.line-item.is
          (of-line p b done line _ _ new r
          (took-then p q (keeps-both _ _ h h c.in_ok-text.ensures.keeps (keeps-self h)) (line_steps b line false) (next b done c.args.lines.now c.loop-line.line-index) _ _ new c.in_ok-text.text r (c.in_ok-text.ensures.took h entries)
          (rw c.in_ok-push.ensures.ok at t))));
    }

pub returns-clause-took : goal.returns-clause-took
returns-clause-took g c = λ h entries.
    let p : Question → Option Answer = both (g.E.Evaluation.promised c.loop-line.evaluation) h in
    let b : BodyContents = body_contents_of (g.S.Syntax.answers c.args.body.now.syntax.now) c.args.body.now in
    let done : List Text = c.loop-line.texts in
    c.loop-line.invariant.rest h entries _ (Ok done)
    (took-none p (behind_steps b done) c.args.lines.now c.loop-line.line-index _ _ (Ok done) (omega (arith, c.loop-line-test.false))
    (no-line p b done _ (Ok done) (took-give p _ done)))

use Rattle.std.proofs.Common.{◌+◌, ℕ, List, Option, Ok, arith, drop}
use Rattle.just_names.specs.Texts.{Text}
use Rattle.just_run_layers.specs.Host.{Answer}
use Rattle.just_run_layers.specs.Interactions.{Question, Interaction, both}
use Rattle.just_run_layers.proofs.InteractionLemmas.{keeps-then, keeps-self, keeps-both, took-then, took-give}
use Rattle.just_recipe_body.specs.Body.{show_steps}
use Rattle.just_recipe_body.proofs.StepEnds.{took-exit}
use Rattle.just_script_body.specs.ScriptBody.{show_all_steps}
use Rattle.just_script_body.proofs.ScriptLemmas.{took-none, took-one}
use Rattle.just_script_body.proofs.lines.show_all.Goals as goal

abbrev next : List Text → ℕ → Unit {0} → Interaction (Unit {0})
next texts i _ = show_all_steps (drop (i + 1) texts)

pub returns-in_err-show_text-clause-keeps : goal.returns-in_err-show_text-clause-keeps
returns-in_err-show_text-clause-keeps g c = keeps-then _ _ _ c.loop-text.invariant.keeps c.in_err-show_text.ensures.keeps

pub returns-in_err-show_text-clause-took : goal.returns-in_err-show_text-clause-took
returns-in_err-show_text-clause-took g c = λ e requests.
    let p : Question → Option Answer = both e (g.H.Host.promised c.loop-text.host) in
    let text : Text = c.text-item.result in
    let r = c.from_residual.result in
    c.loop-text.invariant.rest e requests _ r
    (took-one p show_all_steps c.args.texts.now c.loop-text.text-index text _ _ r c.loop-text-test.true c.text-item.is
    (took-exit p (show_steps text) (next c.args.texts.now c.loop-text.text-index) _ _ c.in_err-show_text.field-0.0 r c.from_residual.ensures.1 (c.in_err-show_text.ensures.took e requests)))

pub loop-text-preserved : goal.loop-text-preserved
loop-text-preserved g c =
    let text : Text = c.text-item.result in
    record {
      keeps = keeps-then _ _ _ c.loop-text.invariant.keeps c.in_ok-show_text.ensures.keeps;
      rest = λ e requests new r t.
          let p : Question → Option Answer = both e (g.H.Host.promised c.loop-text.host) in
          let q : Question → Option Answer = both e (g.H.Host.promised c.show_text.new.host) in
          c.loop-text.invariant.rest e requests new r
          (took-one p show_all_steps c.args.texts.now c.loop-text.text-index text _ new r c.loop-text-test.true c.text-item.is
          (took-then p q (keeps-both e e _ _ (keeps-self e) c.in_ok-show_text.ensures.keeps) (show_steps text) (next c.args.texts.now c.loop-text.text-index) _ _ new tt r (c.in_ok-show_text.ensures.took e requests) t));
    }

pub returns-clause-took : goal.returns-clause-took
returns-clause-took g c = λ e requests.
    let p : Question → Option Answer = both e (g.H.Host.promised c.loop-text.host) in
    c.loop-text.invariant.rest e requests _ _
    (took-none p show_all_steps c.args.texts.now c.loop-text.text-index _ _ (Ok tt) (omega (arith, c.loop-text-test.false)) (took-give p _ tt))

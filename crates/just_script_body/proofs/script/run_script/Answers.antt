use Rattle.std.proofs.Common.{List, Option}
use Rattle.just_names.specs.Texts.{Text}
use Rattle.just_run_layers.specs.Host.{Answer}
use Rattle.just_run_layers.specs.Interactions.{Question, Interaction, and_then, both}
use Rattle.just_run_layers.proofs.InteractionLemmas.{keeps-then, keeps-self, keeps-both, took-then}
use Rattle.just_recipe_body.specs.Body.{BodyContents, body_contents_of}
use Rattle.just_recipe_body.proofs.StepEnds.{took-exit}
use Rattle.just_script_body.specs.ScriptBody.{heading_steps, is_script_shown, show_if_steps, shown_steps, texts_steps, script_unless_dry_steps}
use Rattle.just_script_body.proofs.script.run_script.Goals as goal

abbrev next : BodyContents → Unit {0} → Interaction (Unit {0})
next b _ = and_then (texts_steps b b.recipe.body) (shown_steps b)

pub ask_texts-requires : goal.ask_texts-requires
ask_texts-requires g c = record { covered = rw c.as_slice.ensures c.requires.lines }

pub returns-in_err-texts-clause-keeps : goal.returns-in_err-texts-clause-keeps
returns-in_err-texts-clause-keeps g c = keeps-then _ _ _ c.in_ok-begin.ensures.keeps c.in_err-texts.ensures.keeps

pub returns-in_err-show_if-clause-keeps : goal.returns-in_err-show_if-clause-keeps
returns-in_err-show_if-clause-keeps g c = keeps-then _ _ _ c.in_ok-begin.ensures.keeps c.in_ok-texts.ensures.keeps

pub returns-in_err-show_if-clause-keeps_host : goal.returns-in_err-show_if-clause-keeps_host
returns-in_err-show_if-clause-keeps_host g c = keeps-then _ _ _ c.in_ok-begin.ensures.keeps_host c.in_err-show_if.ensures.keeps

pub returns-clause-keeps : goal.returns-clause-keeps
returns-clause-keeps g c = keeps-then _ _ _ c.in_ok-begin.ensures.keeps (keeps-then _ _ _ c.in_ok-texts.ensures.keeps c.run_unless_dry.ensures.keeps)

pub returns-clause-keeps_host : goal.returns-clause-keeps_host
returns-clause-keeps_host g c = keeps-then _ _ _ c.in_ok-begin.ensures.keeps_host (keeps-then _ _ _ c.in_ok-show_if.ensures.keeps c.run_unless_dry.ensures.keeps_host)

pub returns-in_err-begin-clause-took : goal.returns-in_err-begin-clause-took
returns-in_err-begin-clause-took g c =
    let p : Question → Option Answer = both (g.E.Evaluation.promised c.args.evaluation.now) (g.H.Host.promised c.args.host.now) in
    let b : BodyContents = body_contents_of (g.S.Syntax.answers c.args.body.now.syntax.now) c.args.body.now in
    let r = c.from_residual.result in
    took-exit p (heading_steps b) (next b) _ _ c.in_err-begin.field-0.0 r c.from_residual.ensures.1 c.in_err-begin.ensures.took

pub returns-in_err-texts-clause-took : goal.returns-in_err-texts-clause-took
returns-in_err-texts-clause-took g c =
    let h = g.H.Host.promised c.begin.new.host in
    let p : Question → Option Answer = both (g.E.Evaluation.promised c.args.evaluation.now) (g.H.Host.promised c.args.host.now) in
    let q : Question → Option Answer = both (g.E.Evaluation.promised c.begin.new.evaluation) h in
    let b : BodyContents = body_contents_of (g.S.Syntax.answers c.args.body.now.syntax.now) c.args.body.now in
    let r = c.from_residual-in_err-texts.result in
    took-then p q (keeps-both _ _ _ _ c.in_ok-begin.ensures.keeps c.in_ok-begin.ensures.keeps_host) (heading_steps b) (next b) _ _ _ tt r c.in_ok-begin.ensures.took
    (took-exit q (texts_steps b b.recipe.body) (shown_steps b) _ _ c.in_err-texts.field-0.0 r c.from_residual-in_err-texts.ensures.1 (rw c.as_slice.ensures at (c.in_err-texts.ensures.took h (g.H.Host.entries c.begin.new.host))))

pub returns-in_err-show_if-clause-took : goal.returns-in_err-show_if-clause-took
returns-in_err-show_if-clause-took g c =
    let h = g.H.Host.promised c.begin.new.host in
    let e = g.E.Evaluation.promised c.ask_texts.new.evaluation in
    let p : Question → Option Answer = both (g.E.Evaluation.promised c.args.evaluation.now) (g.H.Host.promised c.args.host.now) in
    let q : Question → Option Answer = both (g.E.Evaluation.promised c.begin.new.evaluation) h in
    let o : Question → Option Answer = both e h in
    let b : BodyContents = body_contents_of (g.S.Syntax.answers c.args.body.now.syntax.now) c.args.body.now in
    let texts : List Text = c.in_ok-texts.texts in
    let r = c.from_residual-in_err-show_if.result in
    took-then p q (keeps-both _ _ _ _ c.in_ok-begin.ensures.keeps c.in_ok-begin.ensures.keeps_host) (heading_steps b) (next b) _ _ _ tt r c.in_ok-begin.ensures.took
    (took-then q o (keeps-both _ _ h h c.in_ok-texts.ensures.keeps (keeps-self h)) (texts_steps b b.recipe.body) (shown_steps b) _ _ _ texts r (rw c.as_slice.ensures at (c.in_ok-texts.ensures.took h (g.H.Host.entries c.begin.new.host)))
    (took-exit o (show_if_steps (is_script_shown b) texts) (λ _. script_unless_dry_steps b texts) _ _ c.in_err-show_if.field-0.0 r c.from_residual-in_err-show_if.ensures.1
    (rw c.is_shown.ensures at (c.in_err-show_if.ensures.took e (g.E.Evaluation.requests c.ask_texts.new.evaluation)))))

pub returns-clause-took : goal.returns-clause-took
returns-clause-took g c =
    let h = g.H.Host.promised c.begin.new.host in
    let e = g.E.Evaluation.promised c.ask_texts.new.evaluation in
    let p : Question → Option Answer = both (g.E.Evaluation.promised c.args.evaluation.now) (g.H.Host.promised c.args.host.now) in
    let q : Question → Option Answer = both (g.E.Evaluation.promised c.begin.new.evaluation) h in
    let o : Question → Option Answer = both e h in
    let m : Question → Option Answer = both e (g.H.Host.promised c.show_if.new.host) in
    let b : BodyContents = body_contents_of (g.S.Syntax.answers c.args.body.now.syntax.now) c.args.body.now in
    let texts : List Text = c.in_ok-texts.texts in
    let r = c.run_unless_dry.result in
    took-then p q (keeps-both _ _ _ _ c.in_ok-begin.ensures.keeps c.in_ok-begin.ensures.keeps_host) (heading_steps b) (next b) _ _ _ tt r c.in_ok-begin.ensures.took
    (took-then q o (keeps-both _ _ h h c.in_ok-texts.ensures.keeps (keeps-self h)) (texts_steps b b.recipe.body) (shown_steps b) _ _ _ texts r (rw c.as_slice.ensures at (c.in_ok-texts.ensures.took h (g.H.Host.entries c.begin.new.host)))
    (took-then o m (keeps-both e e _ _ (keeps-self e) c.in_ok-show_if.ensures.keeps) (show_if_steps (is_script_shown b) texts) (λ _. script_unless_dry_steps b texts) _ _ _ tt r
    (rw c.is_shown.ensures at (c.in_ok-show_if.ensures.took e (g.E.Evaluation.requests c.ask_texts.new.evaluation)))
    c.run_unless_dry.ensures.took))

use Rattle.std.proofs.Common.{Option, Ok}
use Rattle.just_names.specs.Texts.{Text}
use Rattle.just_run_layers.specs.Host.{Answer}
use Rattle.just_run_layers.specs.Interactions.{Return, Question, Interaction, and_then, both}
use Rattle.just_run_layers.proofs.InteractionLemmas.{keeps-then, keeps-self, keeps-both, took-then, took-give}
use Rattle.just_recipe_body.specs.Body.{BodyContents, body_contents_of, directory_steps, format_steps, prepared}
use Rattle.just_recipe_body.specs.declared.body.Preparation.{Preparation}
use Rattle.just_recipe_body.proofs.StepEnds.{took-exit}
use Rattle.just_recipe_body.proofs.body.prepare.Goals as goal

abbrev next : BodyContents → Option Text → Interaction Preparation
next b directory = and_then (format_steps b) (λ format. Return (prepared directory format))

pub returns-in_err-timestamp_format-clause-keeps : goal.returns-in_err-timestamp_format-clause-keeps
returns-in_err-timestamp_format-clause-keeps g c = keeps-then _ _ _ c.in_ok-working_directory.ensures.keeps c.in_err-timestamp_format.ensures.keeps

pub returns-clause-keeps : goal.returns-clause-keeps
returns-clause-keeps g c = keeps-then _ _ _ c.in_ok-working_directory.ensures.keeps c.in_ok-timestamp_format.ensures.keeps

pub returns-in_err-working_directory-clause-took : goal.returns-in_err-working_directory-clause-took
returns-in_err-working_directory-clause-took g c = λ h entries.
    let p : Question → Option Answer = both (g.E.Evaluation.promised c.args.evaluation.now) h in
    let b : BodyContents = body_contents_of (g.S.Syntax.answers c.args.body.now.syntax.now) c.args.body.now in
    let r = c.from_residual.result in
    took-exit p (directory_steps b) (next b) _ _ c.in_err-working_directory.field-0.0 r c.from_residual.ensures.1 (c.in_err-working_directory.ensures.took h entries)

pub returns-in_err-timestamp_format-clause-took : goal.returns-in_err-timestamp_format-clause-took
returns-in_err-timestamp_format-clause-took g c = λ h entries.
    let p : Question → Option Answer = both (g.E.Evaluation.promised c.args.evaluation.now) h in
    let q : Question → Option Answer = both (g.E.Evaluation.promised c.ask_directory.new.evaluation) h in
    let b : BodyContents = body_contents_of (g.S.Syntax.answers c.args.body.now.syntax.now) c.args.body.now in
    let r = c.from_residual-in_err-timestamp_format.result in
    took-then p q (keeps-both _ _ h h c.in_ok-working_directory.ensures.keeps (keeps-self h)) (directory_steps b) (next b) _ _ _ c.in_ok-working_directory.working_directory r (c.in_ok-working_directory.ensures.took h entries)
    (took-exit q (format_steps b) (λ format. Return (prepared c.in_ok-working_directory.working_directory format)) _ _ c.in_err-timestamp_format.field-0.0 r c.from_residual-in_err-timestamp_format.ensures.1 (c.in_err-timestamp_format.ensures.took h entries))

pub returns-clause-took : goal.returns-clause-took
returns-clause-took g c = λ h entries.
    let p : Question → Option Answer = both (g.E.Evaluation.promised c.args.evaluation.now) h in
    let q : Question → Option Answer = both (g.E.Evaluation.promised c.ask_directory.new.evaluation) h in
    let o : Question → Option Answer = both (g.E.Evaluation.promised c.ask_format.new.evaluation) h in
    let b : BodyContents = body_contents_of (g.S.Syntax.answers c.args.body.now.syntax.now) c.args.body.now in
    let made : Preparation = prepared c.in_ok-working_directory.working_directory c.in_ok-timestamp_format.timestamp_format in
    took-then p q (keeps-both _ _ h h c.in_ok-working_directory.ensures.keeps (keeps-self h)) (directory_steps b) (next b) _ _ _ c.in_ok-working_directory.working_directory (Ok made) (c.in_ok-working_directory.ensures.took h entries)
    (took-then q o (keeps-both _ _ h h c.in_ok-timestamp_format.ensures.keeps (keeps-self h)) (format_steps b) (λ format. Return (prepared c.in_ok-working_directory.working_directory format)) _ _ _ c.in_ok-timestamp_format.timestamp_format (Ok made) (c.in_ok-timestamp_format.ensures.took h entries)
    (took-give o _ made))

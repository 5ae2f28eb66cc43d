use Rattle.std.proofs.Common.{List, [], Option, false, sym, ◌∙◌, refl}
use Rattle.just_ast_definitions.specs.declared.line.Line.{Line}
use Rattle.just_names.specs.Texts.{Text}
use Rattle.just_run_layers.specs.Covering.{module_of}
use Rattle.just_run_layers.specs.Host.{Answer}
use Rattle.just_run_layers.specs.Interactions.{Return, Question, Interaction, both, log_of}
use Rattle.just_run_layers.proofs.InteractionLemmas.{keeps-self, keeps-both, took-then, took-give}
use Rattle.just_recipe_body.specs.Body.{BodyContents, body_contents_of}
use Rattle.just_shell_body.specs.Lines.{command_of_group, lines_text_steps}
use Rattle.just_shell_body.specs.declared.lines.GroupCommand.{GroupCommand}
use Rattle.just_shell_body.proofs.ShellLemmas.{begins-first, group-bound, of-group, of-skipped}
use Rattle.just_recipe_body.proofs.StepEnds.{took-exit, took-gone}
use Rattle.just_shell_body.proofs.lines.ask_command.Goals as goal

abbrev next : BodyContents → Line → List Line → Text → Interaction (Option GroupCommand)
next b line lines text = Return (command_of_group (b.syntax.sigils line b.context.settings) line lines text)

pub ask_text-requires : goal.ask_text-requires
ask_text-requires g c =
    let b : BodyContents = body_contents_of (g.S.Syntax.answers c.args.body.now.syntax.now) c.args.body.now in
    record {
      same = c.requires.same;
      covered = group-bound b.syntax b.context.settings (module_of c.args.body.now.context.now) b.scope c.in-Some.first.now c.in-Some.rest.now c.args.lines.now c.in-Some.ensures.cases.0 (sym c.is_skipped.ensures ∙ c.if-is_skipped.false) c.requires.covered;
    }

pub command_said-requires : goal.command_said-requires
command_said-requires g c =
    let b : BodyContents = body_contents_of (g.S.Syntax.answers c.args.body.now.syntax.now) c.args.body.now in
    rw (c.as_slice.ensures, c.as_str.ensures, c.in_ok-sigils.ensures.are) (begins-first b.syntax b.context.settings c.in-Some.first.now c.in-Some.rest.now c.args.lines.now c.in_ok-text.text c.in-Some.ensures.cases.0 c.in_ok-text.ensures.begins)

pub returns-then-is_skipped-clause-took : goal.returns-then-is_skipped-clause-took
returns-then-is_skipped-clause-took g c = λ h entries.
    let p : Question → Option Answer = both (g.E.Evaluation.promised c.args.evaluation.now) h in
    let b : BodyContents = body_contents_of (g.S.Syntax.answers c.args.body.now.syntax.now) c.args.body.now in
    of-skipped p b c.in-Some.first.now c.in-Some.rest.now c.args.lines.now _ c.in-Some.ensures.cases.0 (sym c.is_skipped.ensures ∙ c.if-is_skipped.true)

pub returns-in_err-text-clause-took : goal.returns-in_err-text-clause-took
returns-in_err-text-clause-took g c = λ h entries.
    let p : Question → Option Answer = both (g.E.Evaluation.promised c.args.evaluation.now) h in
    let b : BodyContents = body_contents_of (g.S.Syntax.answers c.args.body.now.syntax.now) c.args.body.now in
    let line : Line = c.in-Some.first.now in
    let rest : List Line = c.in-Some.rest.now in
    let r = c.from_residual.result in
    of-group p b line rest c.args.lines.now _ _ r c.in-Some.ensures.cases.0 (sym c.is_skipped.ensures ∙ c.if-is_skipped.false)
    (took-exit p (lines_text_steps b false [] c.args.lines.now) (next b line rest) _ _ c.in_err-text.field-0.0 r c.from_residual.ensures.1 (c.in_err-text.ensures.took h entries))

pub returns-in_err-sigils-clause-took : goal.returns-in_err-sigils-clause-took
returns-in_err-sigils-clause-took g c = λ h entries.
    let p : Question → Option Answer = both (g.E.Evaluation.promised c.args.evaluation.now) h in
    let q : Question → Option Answer = both (g.E.Evaluation.promised c.ask_text.new.evaluation) h in
    let b : BodyContents = body_contents_of (g.S.Syntax.answers c.args.body.now.syntax.now) c.args.body.now in
    let line : Line = c.in-Some.first.now in
    let rest : List Line = c.in-Some.rest.now in
    let r = c.from_residual-in_err-sigils.result in
    of-group p b line rest c.args.lines.now _ _ r c.in-Some.ensures.cases.0 (sym c.is_skipped.ensures ∙ c.if-is_skipped.false)
    (took-then p q (keeps-both _ _ h h c.in_ok-text.ensures.keeps (keeps-self h)) (lines_text_steps b false [] c.args.lines.now) (next b line rest) _ _ _ c.in_ok-text.text r (c.in_ok-text.ensures.took h entries)
    (took-gone q (next b line rest c.in_ok-text.text) (log_of entries (g.E.Evaluation.requests c.ask_text.new.evaluation)) _ r c.from_residual-in_err-sigils.ensures.1 refl))

pub returns-in_err-command_said-clause-took : goal.returns-in_err-command_said-clause-took
returns-in_err-command_said-clause-took g c = λ h entries.
    let p : Question → Option Answer = both (g.E.Evaluation.promised c.args.evaluation.now) h in
    let q : Question → Option Answer = both (g.E.Evaluation.promised c.ask_text.new.evaluation) h in
    let b : BodyContents = body_contents_of (g.S.Syntax.answers c.args.body.now.syntax.now) c.args.body.now in
    let line : Line = c.in-Some.first.now in
    let rest : List Line = c.in-Some.rest.now in
    let r = c.from_residual-in_err-command_said.result in
    of-group p b line rest c.args.lines.now _ _ r c.in-Some.ensures.cases.0 (sym c.is_skipped.ensures ∙ c.if-is_skipped.false)
    (took-then p q (keeps-both _ _ h h c.in_ok-text.ensures.keeps (keeps-self h)) (lines_text_steps b false [] c.args.lines.now) (next b line rest) _ _ _ c.in_ok-text.text r (c.in_ok-text.ensures.took h entries)
    (took-gone q (next b line rest c.in_ok-text.text) (log_of entries (g.E.Evaluation.requests c.ask_text.new.evaluation)) _ r c.from_residual-in_err-command_said.ensures.1 refl))

pub returns-clause-took : goal.returns-clause-took
returns-clause-took g c = λ h entries.
    let p : Question → Option Answer = both (g.E.Evaluation.promised c.args.evaluation.now) h in
    let q : Question → Option Answer = both (g.E.Evaluation.promised c.ask_text.new.evaluation) h in
    let b : BodyContents = body_contents_of (g.S.Syntax.answers c.args.body.now.syntax.now) c.args.body.now in
    let line : Line = c.in-Some.first.now in
    let rest : List Line = c.in-Some.rest.now in
    of-group p b line rest c.args.lines.now _ _ _ c.in-Some.ensures.cases.0 (sym c.is_skipped.ensures ∙ c.if-is_skipped.false)
    (took-then p q (keeps-both _ _ h h c.in_ok-text.ensures.keeps (keeps-self h)) (lines_text_steps b false [] c.args.lines.now) (next b line rest) _ _ _ c.in_ok-text.text _ (c.in_ok-text.ensures.took h entries)
    (rw (c.in_ok-command_said.ensures, c.as_slice.ensures, c.as_str.ensures, c.in_ok-sigils.ensures.are) (took-give q (log_of entries (g.E.Evaluation.requests c.ask_text.new.evaluation)) (command_of_group (b.syntax.sigils line b.context.settings) line rest c.in_ok-text.text))))

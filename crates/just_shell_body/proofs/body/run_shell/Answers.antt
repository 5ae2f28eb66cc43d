use Rattle.std.proofs.Common.{List, Option, subst}
use Rattle.std.specs.Prelude.{Result}
use Rattle.just_ast_definitions.specs.declared.line.Line.{Line}
use Rattle.just_errors.specs.declared.halt.Halt.{Halt}
use Rattle.just_run_layers.specs.Host.{Answer}
use Rattle.just_run_layers.specs.Interactions.{Log, Question, Interaction, HasTrace, both, log_of}
use Rattle.just_run_layers.proofs.InteractionLemmas.{keeps-then, keeps-self, keeps-both, took-then}
use Rattle.just_recipe_body.specs.Body.{BodyContents, body_contents_of, body_prepare_steps}
use Rattle.just_recipe_body.specs.declared.body.Preparation.{Preparation}
use Rattle.just_recipe_body.proofs.StepEnds.{took-exit}
use Rattle.just_shell_body.specs.ShellBody.{lines_steps}
use Rattle.just_shell_body.proofs.body.run_shell.Goals as goal

abbrev next : BodyContents → Preparation → Interaction (Unit {0})
next b prep = lines_steps b prep b.recipe.body

pub returns-in_err-preparation-clause-took : goal.returns-in_err-preparation-clause-took
returns-in_err-preparation-clause-took g c =
    let h = g.H.Host.promised c.args.host.now in
    let p : Question → Option Answer = both (g.E.Evaluation.promised c.args.evaluation.now) h in
    let b : BodyContents = body_contents_of (g.S.Syntax.answers c.args.body.now.syntax.now) c.args.body.now in
    let r : Result (Unit {0}) Halt = c.from_residual.result in
    took-exit p (body_prepare_steps b) (next b) _ _ c.in_err-preparation.field-0.0 r c.from_residual.ensures.1 (c.in_err-preparation.ensures.took h (g.H.Host.entries c.args.host.now))

pub returns-clause-keeps : goal.returns-clause-keeps
returns-clause-keeps g c = keeps-then _ _ _ c.in_ok-preparation.ensures.keeps c.run_groups.ensures.keeps

pub returns-clause-took : goal.returns-clause-took
returns-clause-took g c =
    let h = g.H.Host.promised c.args.host.now in
    let p : Question → Option Answer = both (g.E.Evaluation.promised c.args.evaluation.now) h in
    let q : Question → Option Answer = both (g.E.Evaluation.promised c.prepare.new.evaluation) h in
    let b : BodyContents = body_contents_of (g.S.Syntax.answers c.args.body.now.syntax.now) c.args.body.now in
    let prep : Preparation = c.in_ok-preparation.preparation in
    let mid : Log = log_of (g.H.Host.entries c.args.host.now) (g.E.Evaluation.requests c.prepare.new.evaluation) in
    let new : Log = log_of (g.H.Host.entries c.run_groups.new.host) (g.E.Evaluation.requests c.run_groups.new.evaluation) in
    took-then p q (keeps-both _ _ h h c.in_ok-preparation.ensures.keeps (keeps-self h)) (body_prepare_steps b) (next b) _ mid new prep c.run_groups.result (c.in_ok-preparation.ensures.took h (g.H.Host.entries c.args.host.now))
    (subst (λ (ls : List Line). HasTrace q (lines_steps b prep ls) mid new c.run_groups.result) c.as_slice-lines.ensures c.run_groups.ensures.took)

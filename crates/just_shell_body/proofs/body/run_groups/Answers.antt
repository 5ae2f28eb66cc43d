use Rattle.std.proofs.Common.{List, ◌+◌, length, drop, Option, Ok, subst, arith}
use Rattle.std.specs.Prelude.{Result}
use Rattle.std.proofs.lemmas.List.{length-drop}
use Rattle.std.proofs.lemmas.List.Elements.{All-head, All-tail}
use Rattle.std.specs.List.{All}
use Rattle.just_ast_definitions.specs.declared.line.Line.{Line}
use Rattle.just_errors.specs.declared.halt.Halt.{Halt}
use Rattle.just_run_layers.specs.Covering.{module_of}
use Rattle.just_run_layers.specs.Host.{Answer}
use Rattle.just_run_layers.specs.Interactions.{Question, both}
use Rattle.just_run_layers.proofs.InteractionLemmas.{keeps-then, keeps-both, took-then, took-give}
use Rattle.just_recipe_body.specs.Body.{BodyContents, body_contents_of}
use Rattle.just_recipe_body.specs.declared.body.Preparation.{Preparation}
use Rattle.just_recipe_body.specs.declared.judgement.Next.TheVariants.{Onward, Ended}
use Rattle.just_recipe_body.proofs.StepEnds.{took-exit}
use Rattle.just_shell_body.specs.Lines.{IsGroupCovered, groups}
use Rattle.just_shell_body.specs.ShellBody.{group_steps, lines_steps, unless_ended}
use Rattle.just_shell_body.proofs.ShellLemmas.{one-group, no-groups}
use Rattle.just_shell_body.proofs.body.run_groups.Goals as goal

pub returns-in_err-run_group-clause-keeps : goal.returns-in_err-run_group-clause-keeps
returns-in_err-run_group-clause-keeps g c = keeps-then _ _ _ c.loop-at.invariant.keeps c.in_err-run_group.ensures.keeps

pub returns-in-Ended-clause-keeps : goal.returns-in-Ended-clause-keeps
returns-in-Ended-clause-keeps g c = keeps-then _ _ _ c.loop-at.invariant.keeps c.in_ok-run_group.ensures.keeps

pub returns-in-Ended-clause-keeps_host : goal.returns-in-Ended-clause-keeps_host
returns-in-Ended-clause-keeps_host g c = keeps-then _ _ _ c.loop-at.invariant.keeps_host c.in_ok-run_group.ensures.keeps_host

pub returns-in_err-run_group-clause-took : goal.returns-in_err-run_group-clause-took
returns-in_err-run_group-clause-took g c =
    let p : Question → Option Answer = both (g.E.Evaluation.promised c.loop-at.evaluation) (g.H.Host.promised c.loop-at.host) in
    let b : BodyContents = body_contents_of (g.S.Syntax.answers c.args.body.now.syntax.now) c.args.body.now in
    let prep : Preparation = c.args.preparation.now in
    let group : List Line = c.group_at-group.result.now in
    let others : List Line = drop (c.loop-at.at + length group) c.args.lines.now in
    let r : Result (Unit {0}) Halt = c.from_residual.result in
    c.loop-at.invariant.rest _ r
    (one-group p b prep (drop c.loop-at.at c.args.lines.now) group others _ _ r c.group_at-group.ensures.first
    (took-exit p (group_steps b prep group) (unless_ended (lines_steps b prep others)) _ _ c.in_err-run_group.field-0.0 r c.from_residual.ensures.1 c.in_err-run_group.ensures.took))

pub returns-in-Ended-clause-took : goal.returns-in-Ended-clause-took
returns-in-Ended-clause-took g c =
    let p : Question → Option Answer = both (g.E.Evaluation.promised c.loop-at.evaluation) (g.H.Host.promised c.loop-at.host) in
    let q : Question → Option Answer = both (g.E.Evaluation.promised c.run_group.new.evaluation) (g.H.Host.promised c.run_group.new.host) in
    let b : BodyContents = body_contents_of (g.S.Syntax.answers c.args.body.now.syntax.now) c.args.body.now in
    let prep : Preparation = c.args.preparation.now in
    let group : List Line = c.group_at-group.result.now in
    let others : List Line = drop (c.loop-at.at + length group) c.args.lines.now in
    c.loop-at.invariant.rest _ (Ok tt)
    (one-group p b prep (drop c.loop-at.at c.args.lines.now) group others _ _ (Ok tt) c.group_at-group.ensures.first
    (took-then p q (keeps-both _ _ _ _ c.in_ok-run_group.ensures.keeps c.in_ok-run_group.ensures.keeps_host) (group_steps b prep group) (unless_ended (lines_steps b prep others)) _ _ _ Ended (Ok tt)
    (rw c.in-Ended.is at c.in_ok-run_group.ensures.took) (took-give q _ tt)))

pub run_group-requires-clause-covered : goal.run_group-requires-clause-covered
run_group-requires-clause-covered g c =
    let b : BodyContents = body_contents_of (g.S.Syntax.answers c.args.body.now.syntax.now) c.args.body.now in
    let group : List Line = c.group_at-group.result.now in
    let others : List Line = drop (c.loop-at.at + length group) c.args.lines.now in
    let covered : List Line → Type 0 = IsGroupCovered b.syntax b.context.settings (module_of c.args.body.now.context.now) b.scope in
    All-head covered group (groups b.syntax b.context.settings others) (subst (All covered) c.group_at-group.ensures.first c.loop-at.invariant.covered)

pub loop-at-preserved : goal.loop-at-preserved
loop-at-preserved g c =
    let p : Question → Option Answer = both (g.E.Evaluation.promised c.loop-at.evaluation) (g.H.Host.promised c.loop-at.host) in
    let q : Question → Option Answer = both (g.E.Evaluation.promised c.run_group.new.evaluation) (g.H.Host.promised c.run_group.new.host) in
    let b : BodyContents = body_contents_of (g.S.Syntax.answers c.args.body.now.syntax.now) c.args.body.now in
    let prep : Preparation = c.args.preparation.now in
    let group : List Line = c.group_at-group.result.now in
    let others : List Line = drop (c.loop-at.at + length group) c.args.lines.now in
    let covered : List Line → Type 0 = IsGroupCovered b.syntax b.context.settings (module_of c.args.body.now.context.now) b.scope in
    record {
      keeps = keeps-then _ _ _ c.loop-at.invariant.keeps c.in_ok-run_group.ensures.keeps;
      keeps_host = keeps-then _ _ _ c.loop-at.invariant.keeps_host c.in_ok-run_group.ensures.keeps_host;
      covered = All-tail covered group (groups b.syntax b.context.settings others) (subst (All covered) c.group_at-group.ensures.first c.loop-at.invariant.covered);
      rest = λ new r t. c.loop-at.invariant.rest new r
          (one-group p b prep (drop c.loop-at.at c.args.lines.now) group others _ new r c.group_at-group.ensures.first
          (took-then p q (keeps-both _ _ _ _ c.in_ok-run_group.ensures.keeps c.in_ok-run_group.ensures.keeps_host) (group_steps b prep group) (unless_ended (lines_steps b prep others)) _ _ new Onward r
          (rw c.in-Onward.is at c.in_ok-run_group.ensures.took) t));
    }

pub returns-clause-took : goal.returns-clause-took
returns-clause-took g c =
    let b : BodyContents = body_contents_of (g.S.Syntax.answers c.args.body.now.syntax.now) c.args.body.now in
    c.loop-at.invariant.rest _ (Ok tt)
    (no-groups (both (g.E.Evaluation.promised c.loop-at.evaluation) (g.H.Host.promised c.loop-at.host)) b c.args.preparation.now (drop c.loop-at.at c.args.lines.now) _ (omega (arith, length-drop c.loop-at.at c.args.lines.now, c.loop-at-test.false)))

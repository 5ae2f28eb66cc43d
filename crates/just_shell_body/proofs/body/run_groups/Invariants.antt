use Rattle.std.proofs.Common.{length, drop, ◌-◌}
use Rattle.std.specs.Prelude.{Result}
use Rattle.just_errors.specs.declared.halt.Halt.{Halt}
use Rattle.just_run_layers.specs.Covering.{module_of}
use Rattle.just_run_layers.specs.Host.{KeepsPromises}
use Rattle.just_run_layers.specs.Interactions.{Log, HasTrace, both, log_of}
use Rattle.just_recipe_body.specs.Body.{body_contents_of}
use Rattle.just_shell_body.specs.Lines.{AreGroupsCovered}
use Rattle.just_shell_body.specs.ShellBody.{lines_steps}
use Rattle.just_shell_body.proofs.body.run_groups.Given as goal

abbrev pub decreases-loop-at : goal.decreases-loop-at
decreases-loop-at g l = length l.lines - l.at

abbrev pub invariant-loop-at : goal.invariant-loop-at
invariant-loop-at g l = record {
  keeps : KeepsPromises (g.E.Evaluation.promised l.initial.evaluation) (g.E.Evaluation.promised l.evaluation);
  keeps_host : KeepsPromises (g.H.Host.promised l.initial.host) (g.H.Host.promised l.host);
  covered : AreGroupsCovered (g.S.Syntax.answers l.body.syntax.now) l.body.context.now.settings.now (module_of l.body.context.now) l.body.scope.now (drop l.at l.lines);
  rest : (new : Log) (r : Result (Unit {0}) Halt) →
      HasTrace (both (g.E.Evaluation.promised l.evaluation) (g.H.Host.promised l.host)) (lines_steps (body_contents_of (g.S.Syntax.answers l.body.syntax.now) l.body) l.preparation (drop l.at l.lines)) (log_of (g.H.Host.entries l.host) (g.E.Evaluation.requests l.evaluation)) new r →
      HasTrace (both (g.E.Evaluation.promised l.initial.evaluation) (g.H.Host.promised l.initial.host)) (lines_steps (body_contents_of (g.S.Syntax.answers l.body.syntax.now) l.body) l.preparation l.lines) (log_of (g.H.Host.entries l.initial.host) (g.E.Evaluation.requests l.initial.evaluation)) new r;
}

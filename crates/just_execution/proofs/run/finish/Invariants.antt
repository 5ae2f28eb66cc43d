use Rattle.std.proofs.Common.{◌^◌}
use Rattle.std.specs.Prelude.{Result}
use Rattle.just_errors.specs.declared.halt.Halt.{Halt}
use Rattle.just_run_layers.specs.Host.{KeepsPromises}
use Rattle.just_run_layers.specs.Interactions.{Log, HasTrace, both, log_of}
use Rattle.just_execution.specs.loops.Frames.{IsSoundIn, continuation_of, weight}
use Rattle.just_execution.specs.TaskInteractions.{interactions_of}
use Rattle.just_tasks.specs.Scene.{scene_in}
use Rattle.just_execution.specs.Walking.{State}
use Rattle.just_execution.proofs.run.finish.Given as goal

abbrev pub invariant-loop-frame : goal.invariant-loop-frame
invariant-loop-frame g l = record {
  keeps : KeepsPromises (g.E.Evaluation.promised l.fn.evaluation) (g.E.Evaluation.promised l.evaluation);
  keeps_host : KeepsPromises (g.H.Host.promised l.fn.host) (g.H.Host.promised l.host);
  sound : IsSoundIn (g.S.Syntax.answers l.scopes.syntax.now) l.scopes.modules l.recipes l.run;
  rest : (new : Log) (r : Result State Halt) → HasTrace (both (g.E.Evaluation.promised l.evaluation) (g.H.Host.promised l.host)) (continuation_of (interactions_of (scene_in (g.S.Syntax.answers l.scopes.syntax.now) l.scopes l.recipes)) l.run) (log_of (g.H.Host.entries l.host) (g.E.Evaluation.requests l.evaluation)) new r
      → HasTrace (both (g.E.Evaluation.promised l.fn.evaluation) (g.H.Host.promised l.fn.host)) (continuation_of (interactions_of (scene_in (g.S.Syntax.answers l.scopes.syntax.now) l.scopes l.recipes)) l.fn.run) (log_of (g.H.Host.entries l.fn.host) (g.E.Evaluation.requests l.fn.evaluation)) new r;
}

abbrev pub decreases-loop-frame : goal.decreases-loop-frame
decreases-loop-frame g l = weight (2 ^ 64) l.run.frames.items

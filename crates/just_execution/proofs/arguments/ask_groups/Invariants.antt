use Rattle.std.proofs.Common.{[]}
use Rattle.just_run_layers.specs.Evaluation.{surroundings}
use Rattle.just_run_layers.specs.Host.{KeepsPromises}
use Rattle.just_execution.specs.Arguments.{argument_group_steps}
use Rattle.just_execution.proofs.Gathered.{Continues}
use Rattle.just_execution.proofs.arguments.ask_groups.Given as goal

abbrev pub invariant-loop-group : goal.invariant-loop-group
invariant-loop-group g l = record {
  keeps : KeepsPromises (g.E.Evaluation.promised l.fn.evaluation) (g.E.Evaluation.promised l.evaluation);
  rest : Continues (argument_group_steps (surroundings l.context l.scope l.is_dependency [])) l.given (g.E.Evaluation.promised l.fn.evaluation) (g.E.Evaluation.requests l.fn.evaluation)
      (g.E.Evaluation.promised l.evaluation) (g.E.Evaluation.requests l.evaluation) l.groups l.group-index;
}

use Rattle.std.proofs.Common.{[]}
use Rattle.just_run_layers.specs.Evaluation.{surroundings}
use Rattle.just_run_layers.specs.Host.{KeepsPromises}
use Rattle.just_execution.specs.Arguments.{argument_steps}
use Rattle.just_execution.proofs.Gathered.{Continues}
use Rattle.just_execution.proofs.arguments.ask_group.Given as goal

abbrev pub invariant-loop-argument : goal.invariant-loop-argument
invariant-loop-argument g l = record {
  keeps : KeepsPromises (g.E.Evaluation.promised l.fn.evaluation) (g.E.Evaluation.promised l.evaluation);
  rest : Continues (argument_steps (surroundings l.context l.scope l.is_dependency [])) l.arguments (g.E.Evaluation.promised l.fn.evaluation) (g.E.Evaluation.requests l.fn.evaluation)
      (g.E.Evaluation.promised l.evaluation) (g.E.Evaluation.requests l.evaluation) l.texts l.argument-index;
}

use Rattle.just_run_layers.specs.Host.{KeepsPromises}
use Rattle.just_execution.specs.Arguments.{dependency_steps}
use Rattle.just_execution.specs.TaskInteractions.{surrounded}
use Rattle.just_tasks.specs.Scene.{scope_contents_of}
use Rattle.just_execution.proofs.Gathered.{Continues}
use Rattle.just_execution.proofs.arguments.ask_dependencies.Given as goal

abbrev pub invariant-loop-dependency : goal.invariant-loop-dependency
invariant-loop-dependency g l = record {
  keeps : KeepsPromises (g.E.Evaluation.promised l.fn.evaluation) (g.E.Evaluation.promised l.evaluation);
  rest : Continues (dependency_steps l.recipes (surrounded (scope_contents_of l.home) l.task l.held)) l.dependencies (g.E.Evaluation.promised l.fn.evaluation) (g.E.Evaluation.requests l.fn.evaluation)
      (g.E.Evaluation.promised l.evaluation) (g.E.Evaluation.requests l.evaluation) l.tasks.items l.dependency-index;
}
